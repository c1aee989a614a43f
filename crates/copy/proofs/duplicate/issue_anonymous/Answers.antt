-- A row of zeros but for a few words. Assumes nothing.
use borrow.Author.Rules.{rules}
use Rattle.copy.proofs.DuplicateEnding.{issues_anonymous}
use Rattle.copy.proofs.duplicate.issue_anonymous.Goals as goal

pub returns : goal.returns
returns c = search (rules, issues_anonymous)
