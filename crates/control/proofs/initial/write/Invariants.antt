-- The counters and the SID table over zeros; then its loop gives a station more its token. Assumes nothing.
use Rattle.control.proofs.Beginning.{Begun}
use Rattle.control.proofs.initial.write.Given as goal

abbrev pub invariant-loop-number : goal.invariant-loop-number
invariant-loop-number l = Begun l.control l.number
