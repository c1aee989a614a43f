-- valid::is_sized meets its contract: the five tests in turn. Assumes nothing.
use borrow.Author.Rules.{rules}
use Rattle.valid.proofs.Sizes.{sizes_tested}
use Rattle.valid.proofs.is_sized.Goals as goal

pub returns : goal.returns
returns c = search (rules, sizes_tested)
