-- sid::find::rank meets its contract: the rank stays within the range, which is halved. Assumes nothing.
use Rattle.sid.proofs.Finding.{Halving}
use Rattle.sid.proofs.find.rank.Given as goal

abbrev pub invariant-loop-n : goal.invariant-loop-n
invariant-loop-n l = Halving l.places l.rows l.x l.low l.n

abbrev pub decreases-loop-n : goal.decreases-loop-n
decreases-loop-n l = l.n
