-- Its words in their place. Assumes nothing.
use borrow.Author.Rules.{rules}
use Rattle.control.proofs.SidSection.{sids_set}
use Rattle.control.proofs.sids.set.Goals as goal

pub returns : goal.returns
returns c = search (rules, sids_set)
