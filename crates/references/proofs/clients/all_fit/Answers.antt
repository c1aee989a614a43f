-- references::clients::all_fit meets its contract: its loop tests each row. Assumes nothing.
use mathlib.Core.List.{[]}
use Rattle.table.specs.Chunks.{row_tested, all_tested}
use Rattle.references.proofs.clients.all_fit.Goals as goal

pub loop-row-preserved : goal.loop-row-preserved
loop-row-preserved c = row_tested _ _ _ _ c.token_rows-row-items.ensures [] c.loop-row.invariant c.loop-row-test.true c.fits-ok.ensures

pub returns : goal.returns
returns c = all_tested _ _ _ _ c.token_rows-row-items.ensures c.loop-row.invariant c.loop-row-test.false
