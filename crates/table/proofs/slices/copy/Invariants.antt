-- After i turns the first i elements are copied. Assumes nothing.
use Rattle.std.proofs.Common.{length}
use Rattle.table.specs.Filling.{Filling}
use Rattle.table.proofs.slices.copy.Given as goal

abbrev pub invariant-loop-i : goal.invariant-loop-i
invariant-loop-i g l = Filling (length l.src) l.src l.out l.i
