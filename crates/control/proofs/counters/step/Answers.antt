-- The word is the counter, and steps. Assumes nothing.
use borrow.Author.Rules.{rules}
use Rattle.control.proofs.Sections.{steps}
use Rattle.control.proofs.counters.step.Goals as goal

pub returns : goal.returns
returns c = search (rules, steps)
