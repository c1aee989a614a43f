-- listed::tokens_listed meets its contract: its loop tests each row. Assumes nothing.
use mathlib.Core.List.{[]}
use borrow.Author.Rules.{rules}
use Rattle.table.specs.Chunks.{row_tested, all_tested}
use Rattle.listed.proofs.Listed.{at_end}
use Rattle.listed.proofs.tokens_listed.Goals as goal

pub loop-row-preserved : goal.loop-row-preserved
loop-row-preserved c = row_tested _ _ _ _ (search rules) [] c.loop-row.invariant c.loop-row-test.true c.row_listed-ok.ensures

pub returns : goal.returns
returns c = at_end c.last_of-last.ensures.0 (all_tested _ _ _ _ (search rules) c.loop-row.invariant c.loop-row-test.false)
