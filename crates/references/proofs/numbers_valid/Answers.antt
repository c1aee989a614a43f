-- references::numbers_valid meets its contract: as its callees say. Assumes nothing.
use borrow.Author.Rules.{rules}
use Rattle.references.proofs.Links.{at_numbers}
use Rattle.references.proofs.numbers_valid.Goals as goal

pub returns : goal.returns
returns c = search (rules, at_numbers)
