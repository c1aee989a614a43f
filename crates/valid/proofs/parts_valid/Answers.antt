-- valid::parts_valid meets its contract: as its callees say. Assumes nothing.
use borrow.Author.Rules.{rules}
use Rattle.valid.proofs.Whole.{at_parts}
use Rattle.valid.proofs.parts_valid.Goals as goal

pub returns : goal.returns
returns c = search (rules, at_parts)
