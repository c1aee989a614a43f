-- The words of the row. Assumes nothing.
use borrow.Author.Rules.{rules}
use Rattle.control.proofs.PairRows.{row_given}
use Rattle.control.proofs.pairs.row.Goals as goal

pub returns : goal.returns
returns c = search (rules, row_given)
