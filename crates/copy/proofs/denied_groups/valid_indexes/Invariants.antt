-- One index after the other. Assumes nothing.
use Rattle.copy.proofs.DeniedGroups.{Named}
use Rattle.copy.proofs.denied_groups.valid_indexes.Given as goal

abbrev pub invariant-loop-index : goal.invariant-loop-index
invariant-loop-index l = Named l.size l.yielded l.named
