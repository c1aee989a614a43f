-- No place before this one passes. Assumes nothing.
use Rattle.std.proofs.Common.{ℕ, ◌<◌, false}
use Rattle.control.specs.Pairs.{row_in}
use Rattle.control.proofs.pairs.position.Given as goal

abbrev pub invariant-loop-place : goal.invariant-loop-place
invariant-loop-place g l = (k : ℕ) → k < l.place → goal.F-post g l.passes (row_in l.control k) false
