-- Whatever is packed is a valid SID. Assumes nothing.
use Rattle.restrict_packed.proofs.Gathering.{row_read}
use Rattle.restrict_packed.proofs.gathered.row_at.Goals as goal

pub returns : goal.returns
returns c = row_read _ _ (λ i. (c.type_inv.s i).fits) c.requires c.load.ensures
