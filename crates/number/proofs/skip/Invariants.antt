-- `skip` meets its contract. The loop's invariant: what is left after the numbers still to pass is what is left after all. Assumes nothing.
use Prim.Native.Nat.{◌-◌, ◌≤◌, max}
use mathlib.Core.Path.{◌≡◌}
use lib.ListN.{length, drop}
use Rattle.rules.specs.Number.{read_number}
use Rattle.rules.specs.Request.{times}
use Rattle.number.specs.Rest.{after}
use Rattle.number.proofs.skip.Given as goal

abbrev pub invariant-loop : goal.invariant-loop
invariant-loop l =
    (after (times (l.count - l.counter) (read_number l.limit) (drop l.at l.s)) ≡ after (times l.count (read_number l.limit) (drop l.from l.s)))
    × (l.from ≤ l.at)
    × (l.at ≤ max l.from (length l.s))
