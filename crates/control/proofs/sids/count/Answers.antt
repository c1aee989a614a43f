-- The section's first word. Assumes nothing.
use borrow.Author.Rules.{rules}
use Rattle.control.proofs.SidSection.{sid_count_lem}
use Rattle.control.proofs.sids.count.Goals as goal

pub returns : goal.returns
returns c = search (rules, sid_count_lem)
