-- What is left of the chunk leads where the whole leads. Assumes nothing.
use lib.ListN.{length}
use Rattle.session.specs.Turns.{SameMemory, held}
use Rattle.obriska.specs.Serving.{Onward}
use Rattle.obriska.proofs.serve.Given as goal

abbrev pub invariant-loop-rest : goal.invariant-loop-rest
invariant-loop-rest g l = SameMemory l.initial.memory l.memory × Onward l.station l.chunk l.rest (held l.initial.memory) (held l.memory) (length l.answer)

abbrev pub decreases-loop-rest : goal.decreases-loop-rest
decreases-loop-rest g l = length l.rest
