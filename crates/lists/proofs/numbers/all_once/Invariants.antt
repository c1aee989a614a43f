-- lists::numbers::all_once meets its contract: its loop tests each number. Assumes nothing.
use Rattle.lists.specs.Tests.{is_once}
use Rattle.lists.proofs.Loops.{Tested}
use Rattle.lists.proofs.numbers.all_once.Given as goal

abbrev pub invariant-loop-x : goal.invariant-loop-x
invariant-loop-x l = Tested (is_once l.s) 0 l.s l.ok l.x-index
