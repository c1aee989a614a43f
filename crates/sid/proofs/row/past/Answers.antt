-- sid::row::past meets its contract: by whether the number is odd. Assumes nothing.
use borrow.Author.Rules.{rules}
use borrow.Author.Tests.{eq-eqb, ne_eqb}
use Rattle.sid.specs.Tests.{past_of}
use Rattle.sid.proofs.row.past.Goals as goal

pub returns-then-n-eq1 : goal.returns-then-n-eq1
unfolding past_of
returns-then-n-eq1 c = search (rules, eq-eqb)

pub returns-else-n-eq1 : goal.returns-else-n-eq1
unfolding past_of
returns-else-n-eq1 c = search (rules, ne_eqb)
