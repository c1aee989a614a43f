-- The SIDs, and the list. Assumes nothing.
use borrow.Author.Rules.{rules}
use Rattle.restrict_packed.proofs.Taking.{takes_all}
use Rattle.restrict_packed.proofs.take.Goals as goal

pub returns : goal.returns
returns c = search (rules, takes_all)
