-- The loop's invariant: the entries still to come, from here on, give what all entries give. Assumes nothing.
use Prim.Native.Nat.{◌-◌}
use mathlib.Core.Path.{◌≡◌}
use mathlib.Core.Bool.{true}
use lib.ListN.{drop}
use Rattle.std.specs.Prelude.{Some}
use Rattle.rules.specs.AdjustGroups.{valid_entry}
use Rattle.rules.specs.Request.{times, entry}
use Rattle.body.specs.Entries.{folded, stopped, turned, passed}
use Rattle.adjust_groups.specs.GroupEntries.{groups_in, judging, progress_of}
use Rattle.adjust_groups.proofs.group_entries.judge.Given as goal

abbrev pub invariant-loop : goal.invariant-loop
invariant-loop l = folded (turned (valid_entry (groups_in l.groups)) (judging l.user (groups_in l.groups))) stopped (progress_of (Some l.g)) (times (l.count - l.counter) entry (drop l.at l.s))
    ≡ passed (valid_entry (groups_in l.groups)) (judging l.user (groups_in l.groups)) true (times l.count entry (drop l.start l.s))
