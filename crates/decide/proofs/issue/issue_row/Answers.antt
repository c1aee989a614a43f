-- The rows, then the handle. Assumes nothing.
use borrow.Author.Rules.{rules}
use Rattle.decide.proofs.RowIssuing.{row_issues}
use Rattle.decide.proofs.issue.issue_row.Goals as goal

pub returns-clause-issued : goal.returns-clause-issued
returns-clause-issued c = search (rules, row_issues)
