-- By what the station acted for. Assumes nothing.
use Rattle.impersonate.proofs.ImpersonateLaws.{reverted}
use Rattle.impersonate.proofs.revert.Goals as goal

pub returns-clause-carried : goal.returns-clause-carried
returns-clause-carried c = rw c.ends.ensures (reverted c.client_of-before.ensures c.act_for.ensures.acts)
