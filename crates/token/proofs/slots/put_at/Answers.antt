-- The parts that were lent come back as the slot's rows. Assumes nothing.
use Rattle.std.proofs.Common.{rules}
use Rattle.table.specs.Table.{put_lent}
use Rattle.token.proofs.slots.put_at.Goals as goal

pub returns : goal.returns
returns c = search (rules, put_lent)
