-- Requests 3 and 14: create, with SIDs by their numbers or packed. Assumes nothing.
use Rattle.std.specs.Prelude.{ℕ, Bool, true, not, ◌&&◌, List, [], ◌∷◌, map, length, leb, if◌then◌else◌}
use Rattle.rules.specs.Basic.{all, member, implies, both_or_neither}
use Rattle.rules.specs.Bits.{has, within}
use Rattle.rules.specs.Mask.{all_rights}
use Rattle.rules.specs.Refusal.{privilege_not_held, bad_field, table_full}
use Rattle.rules.specs.Privileges.{existing, create_token, granted}
use Rattle.rules.specs.Group.{Group, sid_of, is_enabled_by_default, is_deny_only, is_fixed, with_enabled}
use Rattle.rules.specs.Token.{max_groups, primary_of, new_token}
use Rattle.rules.specs.Sid.{Sid}
use Rattle.rules.specs.SidTable.{is_number, fits_table}
use Rattle.rules.specs.Given.{Given, GivenGroup, number_in, group_sid, group_in}
use Rattle.rules.specs.State.{State, held, used, entering}
use Rattle.rules.specs.Decision.{Decision, need◌else◌then◌, can_issue, issued}

-- MANDATORY, ENABLED_BY_DEFAULT, OWNER, DENY_ONLY, LOGON_ID: ENABLED may not be given
abbrev pub givable : ℕ
givable = 0xC000001B

-- a pair that may be given for a token of this user
unfoldable pub valid_pair : ℕ → Group → Bool
valid_pair user g =
    within g.attributes givable
    && both_or_neither (has 30 g.attributes) (has 31 g.attributes)
    && implies (is_fixed user g) (is_enabled_by_default g)
    && implies (is_deny_only g) (not (is_enabled_by_default g))

unfoldable pub valid_integrity : ℕ → Bool
valid_integrity i = member i (0 ∷ 4096 ∷ 8192 ∷ 12288 ∷ 16384 ∷ [])

-- every SID's number is in the table
unfoldable pub valid_create : List Sid → ℕ → ℕ → ℕ → ℕ → List Group → Bool
valid_create sids user integrity present by_default gs =
    valid_integrity integrity
    && within by_default present
    && within present existing
    && leb (length gs) max_groups
    && all (valid_pair user) gs
    && all (is_number sids) (user ∷ map sid_of gs)

-- ENABLED is set from value 2
unfoldable pub entered : Group → Group
entered g = if is_enabled_by_default g then with_enabled true g else g

-- by the SIDs' numbers
unfoldable pub create_numbered : State → ℕ → ℕ → ℕ → ℕ → ℕ → ℕ → List Group → Decision
create_numbered σ s user session integrity present by_default gs =
    need held σ s create_token else privilege_not_held then
    need valid_create σ.sids user integrity present by_default gs else bad_field then
    need can_issue σ && fits_table σ.sids else table_full then
    issued s all_rights
    (new_token σ.tokens.next (primary_of σ.tokens.next user session integrity) (granted present by_default) (map entered gs))
    (used create_token s σ)

-- where the SIDs given have entered, the user's first
unfoldable pub create : State → ℕ → Given → ℕ → ℕ → ℕ → ℕ → List GivenGroup → Decision
create σ s user session integrity present by_default gs =
    let τ = entering (user ∷ map group_sid gs) σ in
    create_numbered τ s (number_in τ.sids user) session integrity present by_default (map (group_in τ.sids) gs)
