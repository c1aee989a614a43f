-- sid::row::less meets its contract: the order of arrays is that of rows. Assumes nothing.
use Rattle.std.proofs.Common.{◌∙◌, sym}
use Rattle.sid.proofs.Loops.{row_order}
use Rattle.sid.proofs.row.less.Goals as goal

pub returns : goal.returns
returns c = c.lt.ensures ∙ row_order c.args.a.now c.args.b.now (c.told-a ∙ sym c.told-b)
