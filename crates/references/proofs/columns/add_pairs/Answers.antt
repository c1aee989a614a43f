-- references::columns::add_pairs meets its contract: its loop keeps a word of the live pairs' rows. Assumes nothing.
use mathlib.Core.Path.{refl}
use borrow.Author.Rules.{rules}
use Rattle.references.proofs.Loops.{counted}
use Rattle.references.proofs.Lists.{joining_none, joining_more, joining_done}
use Rattle.references.proofs.columns.add_pairs.Goals as goal

pub loop-row-init : goal.loop-row-init
loop-row-init c = search (rules, joining_none)

pub loop-row-preserved : goal.loop-row-preserved
loop-row-preserved c = joining_more _ _ _ _ c.pair_rows-row-items.ensures c.loop-row.invariant c.loop-row-test.true refl (counted _ c.from-m.ensures)

pub returns : goal.returns
returns c = joining_done _ _ _ _ c.pair_rows-row-items.ensures c.loop-row.invariant c.loop-row-test.false
