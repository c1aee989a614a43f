-- One SID more for each number. Assumes nothing.
use Rattle.copy.specs.Restricting.{Listed}
use Rattle.copy.proofs.restricting.listed.Given as goal

abbrev pub invariant-loop-sid : goal.invariant-loop-sid
invariant-loop-sid l = Listed l.yielded l.list
