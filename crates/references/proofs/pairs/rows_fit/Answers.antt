-- references::pairs::rows_fit meets its contract: the rule, of two rows. Assumes nothing.
use borrow.Author.Rules.{rules}
use Rattle.references.proofs.PairRows.{at_rows}
use Rattle.references.proofs.pairs.rows_fit.Goals as goal

pub returns : goal.returns
returns c = search (rules, at_rows)
