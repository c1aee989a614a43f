-- sid::write::write meets its contract: its loop writes the halves of the words. Assumes nothing.
use Rattle.sid.proofs.Writing.{Writing}
use Rattle.sid.proofs.write.write.Given as goal

abbrev pub invariant-loop-i : goal.invariant-loop-i
invariant-loop-i l = Writing l.row l.initial.out l.fours l.out l.i
