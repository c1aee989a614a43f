-- One by one. Assumes nothing.
use Rattle.copy.specs.Restricting.{Answers}
use Rattle.copy.proofs.RestrictingSids.{Keeping}
use Rattle.copy.proofs.restricting.kept.Given as goal

abbrev pub invariant-loop-sid : goal.invariant-loop-sid
invariant-loop-sid g l = Keeping (Answers (goal.F-post g l.stays)) l.sids l.list l.sid-index
