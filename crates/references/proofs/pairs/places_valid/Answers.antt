-- references::pairs::places_valid meets its contract: its loop tests each row. Assumes nothing.
use mathlib.Core.List.{[]}
use Rattle.table.specs.Chunks.{row_tested, all_tested}
use Rattle.references.proofs.pairs.places_valid.Goals as goal

pub loop-row-preserved : goal.loop-row-preserved
loop-row-preserved c = row_tested _ _ _ _ c.pair_rows-row-items.ensures [] c.loop-row.invariant c.loop-row-test.true c.place_valid-ok.ensures

pub returns : goal.returns
returns c = all_tested _ _ _ _ c.pair_rows-row-items.ensures c.loop-row.invariant c.loop-row-test.false
