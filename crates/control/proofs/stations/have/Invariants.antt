-- Its loop gathers, of every state that the words hold, whether a station's row has the number. Assumes nothing.
use Rattle.control.proofs.Referring.{Asking}
use Rattle.control.proofs.stations.have.Given as goal

abbrev pub invariant-loop-i : goal.invariant-loop-i
invariant-loop-i l = Asking l.number l.at l.control l.found l.i
