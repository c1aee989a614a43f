-- `pass` meets its contract. The loop's invariant: the entries still to come, from here on, give what all entries give. Assumes nothing.
use Prim.Native.Nat.{◌-◌}
use mathlib.Core.Path.{◌≡◌}
use lib.ListN.{drop}
use Rattle.std.specs.Prelude.{Some}
use Rattle.rules.specs.AdjustPrivileges.{valid_entry, applied}
use Rattle.rules.specs.Request.{times, entry}
use Rattle.privilege.specs.Meaning.{privileges_of}
use Rattle.body.specs.Entries.{folded, stopped, turned, passed}
use Rattle.adjust_privileges.specs.PrivilegeEntries.{progress_of}
use Rattle.adjust_privileges.proofs.privilege_entries.pass.Given as goal

abbrev pub invariant-loop : goal.invariant-loop
invariant-loop l = folded (turned (valid_entry (privileges_of l.p)) applied) stopped (progress_of (Some l.g)) (times (l.count - l.counter) entry (drop l.at l.s))
    ≡ passed (valid_entry (privileges_of l.p)) applied (privileges_of l.p) (times l.count entry (drop l.start l.s))
