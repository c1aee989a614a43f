-- listed::last_of meets its contract: the lesser of both. Assumes nothing.
use borrow.Author.Rules.{rules}
use Rattle.listed.proofs.Listed.{last_least}
use Rattle.listed.proofs.last_of.Goals as goal

pub returns : goal.returns
returns c = search (rules, last_least)
