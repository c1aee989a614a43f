-- listed::all_listed meets its contract: as its callees say. Assumes nothing.
use borrow.Author.Rules.{rules}
use Rattle.listed.proofs.Listed.{all_given}
use Rattle.listed.proofs.all_listed.Goals as goal

pub returns-then-all_given : goal.returns-then-all_given
returns-then-all_given c = search (rules, all_given)
