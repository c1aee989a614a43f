-- The rows, changed. Assumes nothing.
use borrow.Author.Rules.{rules}
use Rattle.copy.proofs.RestrictEnding.{issues_restricted}
use Rattle.copy.proofs.restrict.issue_restricted.Goals as goal

pub returns-clause-issued : goal.returns-clause-issued
returns-clause-issued c = search (rules, issues_restricted)
