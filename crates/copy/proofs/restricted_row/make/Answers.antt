-- The head, the groups, the SIDs. Assumes nothing.
use borrow.Author.Rules.{rules}
use Rattle.copy.proofs.RestrictEnding.{makes}
use Rattle.copy.proofs.restricted_row.make.Goals as goal

pub returns : goal.returns
returns c = search (rules, makes)
