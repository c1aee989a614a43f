-- The words of the section. Assumes nothing.
use borrow.Author.Rules.{rules}
use Rattle.control.proofs.SidSection.{sids_copied}
use Rattle.control.proofs.sids.copied.Goals as goal

pub returns : goal.returns
returns c = search (rules, sids_copied)
