-- What the loop carries up: the places from k on, behind the new one. Assumes nothing.
use Rattle.sid.proofs.Finding.{Carried}
use Rattle.sid.proofs.find.shift.Given as goal

abbrev pub invariant-loop-i : goal.invariant-loop-i
invariant-loop-i l = Carried l.initial.places l.n l.k l.new l.places l.next l.i
