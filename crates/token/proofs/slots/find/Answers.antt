-- By the first words of the rows; no token has number 0. Assumes nothing.
use Rattle.std.proofs.Common.{arith}
use Rattle.token.proofs.Finding.{found_slot, no_slot}
use Rattle.token.proofs.slots.find.Goals as goal

pub returns-then-number-eq0-clause-slot : goal.returns-then-number-eq0-clause-slot
returns-then-number-eq0-clause-slot c = (no_slot _ (omega arith)).0

pub returns-clause-slot : goal.returns-clause-slot
returns-clause-slot c = λ dacls. found_slot _ dacls c.if-number-eq0.false c.slot_of.ensures
