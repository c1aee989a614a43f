-- The last words, and their count. Assumes nothing.
use borrow.Author.Rules.{rules}
use Rattle.copy.proofs.RestrictingSids.{restricts_to}
use Rattle.copy.proofs.restricting.restrict_to.Goals as goal

pub returns : goal.returns
returns c = search (rules, restricts_to)
