-- The number of the SID, where there was room. Assumes nothing.
use borrow.Author.Rules.{rules}
use Rattle.create.proofs.PackedGroups.{number_narrow, number_entered}
use Rattle.create.proofs.packed.enter.Goals as goal

pub returns-in_err-enter : goal.returns-in_err-enter
returns-in_err-enter c = rw c.from_residual.ensures (number_entered c.requires.0 c.in_err-enter.ensures)

pub overflow_cast-result : goal.overflow_cast-result
overflow_cast-result c = search (rules, number_narrow c.requires.0 c.in_ok-enter.field-0 c.in_ok-enter.ensures)

pub returns : goal.returns
returns c = number_entered c.requires.0 c.in_ok-enter.ensures
