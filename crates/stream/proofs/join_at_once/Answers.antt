-- `join_at_once` meets its contract: the bytes that are sure to leave a part, behind the pending ones. Assumes nothing.
use native.Mathlib.Omega.{arith}
use Rattle.stream.proofs.Joining.{joined_at_once}
use Rattle.stream.proofs.join_at_once.Goals as goal

pub returns : goal.returns
returns c = joined_at_once _ _ _ _ _ (omega arith) (omega arith) c.sure.ensures (omega arith) _ c.copy.ensures (omega arith) (omega arith)
