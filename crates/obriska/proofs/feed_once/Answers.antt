-- `feed_once` meets its contract. Assumes nothing.
use borrow.Author.Rules.{rules}
use Rattle.obriska.proofs.Steps.{skips}
use Rattle.obriska.proofs.feed_once.Goals as goal

pub returns-then-fed-ne0-clause-steps : goal.returns-then-fed-ne0-clause-steps
returns-then-fed-ne0-clause-steps g c = search (rules, skips)
