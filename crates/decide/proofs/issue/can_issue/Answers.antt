-- Both tables have room. Assumes nothing.
use borrow.Author.Rules.{rules}
use Rattle.decide.proofs.Issuing.{issue_room}
use Rattle.decide.proofs.issue.can_issue.Goals as goal

pub returns : goal.returns
returns c = search (rules, issue_room)
