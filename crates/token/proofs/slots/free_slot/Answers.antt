-- By the first words of the rows. Assumes nothing.
use Rattle.token.proofs.Finding.{free_slot_lem}
use Rattle.token.proofs.slots.free_slot.Goals as goal

pub returns-clause-slot : goal.returns-clause-slot
returns-clause-slot c = λ dacls. free_slot_lem _ dacls c.slot_of.ensures
