-- A reference is in one word or the other. Assumes nothing.
use borrow.Author.Rules.{rules}
use Rattle.control.proofs.Referring.{refers}
use Rattle.control.proofs.stations.refers.Goals as goal

pub returns : goal.returns
returns c = search (rules, refers)
