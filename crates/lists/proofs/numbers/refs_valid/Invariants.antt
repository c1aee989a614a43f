-- lists::numbers::refs_valid meets its contract: its loop counts each number. Assumes nothing.
use Rattle.lists.proofs.Loops.{Tallying}
use Rattle.lists.proofs.numbers.refs_valid.Given as goal

abbrev pub invariant-loop-x : goal.invariant-loop-x
invariant-loop-x l = Tallying l.s l.referred l.ok l.total l.x-index
