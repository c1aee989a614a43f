-- The word is the counter. Assumes nothing.
use borrow.Author.Rules.{rules}
use Rattle.control.proofs.Sections.{next_given}
use Rattle.control.proofs.counters.next.Goals as goal

pub returns : goal.returns
returns c = search (rules, next_given)
