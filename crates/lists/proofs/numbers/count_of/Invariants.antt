-- lists::numbers::count_of meets its contract: its loop counts the number. Assumes nothing.
use Rattle.lists.proofs.Loops.{Counting}
use Rattle.lists.proofs.numbers.count_of.Given as goal

abbrev pub invariant-loop-y : goal.invariant-loop-y
invariant-loop-y g l = let t = g.T.Number in Counting t.in_turn (t.number l.x) l.s (t.number l.n) l.y-index
