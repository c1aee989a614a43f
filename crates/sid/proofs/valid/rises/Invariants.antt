-- sid::valid::rises meets its contract: its loop compares neighbours. Assumes nothing.
use Rattle.sid.proofs.Loops.{Rises}
use Rattle.sid.proofs.valid.rises.Given as goal

abbrev pub invariant-loop-next : goal.invariant-loop-next
invariant-loop-next l = Rises l.places l.rows l.ok l.at l.next-index
