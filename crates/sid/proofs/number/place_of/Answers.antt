-- sid::number::place_of meets its contract: by the number. Assumes nothing.
use borrow.Author.Rules.{rules}
use Rattle.sid.proofs.Numbers.{stands_first, stands_second, stands_none, stands_over}
use Rattle.sid.proofs.number.place_of.Goals as goal

pub returns-then-n-eq-ANONYMOUS : goal.returns-then-n-eq-ANONYMOUS
returns-then-n-eq-ANONYMOUS c = search (rules, stands_first)

pub returns-then-n-eq-SYSTEM : goal.returns-then-n-eq-SYSTEM
returns-then-n-eq-SYSTEM c = search (rules, stands_second)

pub returns-then-n-lt-FIRST : goal.returns-then-n-lt-FIRST
returns-then-n-lt-FIRST c = search (rules, stands_none)

pub returns : goal.returns
returns c = search (rules, stands_over)
