-- Valid memory has the sizes of the arrays. Assumes nothing.
use Rattle.std.proofs.Common.{arith}
use Rattle.start.proofs.Parts.{valid_lent}
use Rattle.calls.proofs.accept.accept.Goals as goal

pub whole-requires : goal.whole-requires
whole-requires c = (omega arith, (valid_lent _ c.requires.0).tokens)

pub whole-requires-2 : goal.whole-requires-2
whole-requires-2 c = (omega arith, (valid_lent _ c.requires.0).dacls)

pub whole-requires-3 : goal.whole-requires-3
whole-requires-3 c = (omega arith, (valid_lent _ c.requires.0).control)

pub whole-requires-4 : goal.whole-requires-4
whole-requires-4 c = (omega arith, (valid_lent _ c.requires.0).pending)
