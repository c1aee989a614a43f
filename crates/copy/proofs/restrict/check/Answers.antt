-- Test by test. Assumes nothing.
use borrow.Author.Rules.{rules}
use Rattle.copy.proofs.RestrictEnding.{bad_restrict, may_restrict, no_room}
use Rattle.copy.proofs.restrict.check.Goals as goal

pub returns-then-not-valid-narrows : goal.returns-then-not-valid-narrows
returns-then-not-valid-narrows c = search (rules, bad_restrict)

pub returns-then-not-few-can_issue : goal.returns-then-not-few-can_issue
returns-then-not-few-can_issue c = search (rules, no_room)

pub returns : goal.returns
returns c = search (rules, may_restrict)
