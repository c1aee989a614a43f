-- Six words over zeros. Assumes nothing.
use borrow.Author.Rules.{rules}
use Rattle.control.proofs.Beginning.{first_sids}
use Rattle.control.proofs.initial.write_sids.Goals as goal

pub returns : goal.returns
returns c = search (rules, first_sids)
