-- The groups read so far are entered. Assumes nothing.
use Rattle.create.proofs.PackedGroups.{Loading}
use Rattle.create.proofs.packed.read_packed_groups.Given as goal

abbrev pub invariant-loop-n : goal.invariant-loop-n
invariant-loop-n l = Loading l.user l.s l.at l.count l.initial.sids l.words l.sids l.n l.room l.from
