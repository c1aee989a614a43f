-- sid::write::half meets its contract: by whether it is a low or a high half. Assumes nothing.
use borrow.Author.Rules.{rules}
use Rattle.sid.proofs.Writing.{half_even, half_odd}
use Rattle.sid.proofs.write.half.Goals as goal

pub returns-then-i-eq0 : goal.returns-then-i-eq0
returns-then-i-eq0 c = search (rules, half_even)

pub returns-else-i-eq0 : goal.returns-else-i-eq0
returns-else-i-eq0 c = search (rules, half_odd)
