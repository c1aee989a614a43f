-- lists::numbers::all_given meets its contract: its loop tests each number. Assumes nothing.
use Rattle.lists.specs.Tests.{is_given}
use Rattle.lists.proofs.Loops.{Tested}
use Rattle.lists.proofs.numbers.all_given.Given as goal

abbrev pub invariant-loop-x : goal.invariant-loop-x
invariant-loop-x g l = let ns = g.T.Number.numbers l.s in Tested (is_given l.next ns) 0 ns l.ok l.x-index
