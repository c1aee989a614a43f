-- One index after the other. Assumes nothing.
use Rattle.copy.proofs.DeniedGroups.{Denying}
use Rattle.copy.proofs.denied_groups.deny.Given as goal

abbrev pub invariant-loop-index : goal.invariant-loop-index
invariant-loop-index l = Denying l.size l.initial.words l.yielded l.words
