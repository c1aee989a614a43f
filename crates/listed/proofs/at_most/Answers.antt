-- listed::at_most meets its contract: the lesser of both. Assumes nothing.
use borrow.Author.Rules.{rules}
use Rattle.listed.proofs.Listed.{at_most_least}
use Rattle.listed.proofs.at_most.Goals as goal

pub returns : goal.returns
returns c = search (rules, at_most_least)
