-- handle::position meets its contract: no slot before this one passes. Assumes nothing.
use Rattle.std.proofs.Common.{ℕ, ◌<◌, false, get_or}
use Rattle.handle.specs.Meaning.{none}
use Rattle.handle.specs.Words.{records_in}
use Rattle.handle.proofs.position.Given as goal

abbrev pub invariant-loop-slot : goal.invariant-loop-slot
invariant-loop-slot g l = (k : ℕ) → k < l.slot → goal.F-post g l.passes (get_or (records_in l.words) k none) false
