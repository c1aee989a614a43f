-- The pairs read so far are entered. Assumes nothing.
use Rattle.create.proofs.NewGroups.{Entering}
use Rattle.create.proofs.groups.read_groups.Given as goal

abbrev pub invariant-loop-n : goal.invariant-loop-n
invariant-loop-n l = Entering l.user l.known l.s l.at l.count l.words l.n l.from
