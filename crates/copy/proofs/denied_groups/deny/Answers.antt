-- One index after the other. Assumes nothing.
use Rattle.copy.proofs.DeniedGroups.{deny_begin, deny_next}
use Rattle.copy.proofs.denied_groups.deny.Goals as goal

pub loop-index-init : goal.loop-index-init
loop-index-init c = deny_begin _ c.told-words

pub loop-index-preserved : goal.loop-index-preserved
loop-index-preserved c = deny_next c.loop-index.invariant _ c.deny_at.ensures
