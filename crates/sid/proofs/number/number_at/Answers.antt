-- sid::number::number_at meets its contract: by the place. Assumes nothing.
use borrow.Author.Rules.{rules}
use Rattle.sid.proofs.Numbers.{at_first, at_second, at_others}
use Rattle.sid.proofs.number.number_at.Goals as goal

pub returns-then-place-eq0 : goal.returns-then-place-eq0
returns-then-place-eq0 c = search (rules, at_first)

pub returns-then-place-eq1 : goal.returns-then-place-eq1
returns-then-place-eq1 c = search (rules, at_second)

pub returns : goal.returns
returns c = search (rules, at_others)
