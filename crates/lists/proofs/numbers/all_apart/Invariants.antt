-- lists::numbers::all_apart meets its contract: its loop tests each number. Assumes nothing.
use Rattle.lists.specs.Tests.{is_apart}
use Rattle.lists.proofs.Loops.{Tested}
use Rattle.lists.proofs.numbers.all_apart.Given as goal

abbrev pub invariant-loop-x : goal.invariant-loop-x
invariant-loop-x l = Tested (is_apart l.from) 0 l.s l.ok l.x-index
