-- Which of the rules' refusals each one is. Assumes nothing.
use Rattle.std.specs.Prelude.{ℕ}
use Rattle.rules.specs.Refusal as rules
use Rattle.answer.specs.declared.refusal.Refusal.{Refusal}
use Rattle.answer.specs.declared.refusal.Refusal.TheVariants as refusal

abbrev pub refusal_of : Refusal → rules.Refusal
refusal_of refusal.Malformed = rules.malformed
refusal_of refusal.NotALiveHandle = rules.not_aLive_handle
refusal_of refusal.RightMissing = rules.right_missing
refusal_of refusal.PrivilegeNotHeld = rules.privilege_not_held
refusal_of refusal.BadField = rules.bad_field
refusal_of refusal.ProtectedGroup = rules.protected_group
refusal_of refusal.InstallMismatch = rules.install_mismatch
refusal_of refusal.RestrictedServer = rules.restricted_server
refusal_of refusal.TableFull = rules.table_full
refusal_of (refusal.CapacityBelow size) = rules.capacity_below size
refusal_of refusal.StreamBroken = rules.refusal rules.stream_broken
refusal_of refusal.NotLinked = rules.not_linked

abbrev pub number_of : Refusal → ℕ
number_of r = (refusal_of r).number
