-- The lowest free slot, or none, and the next number. Assumes nothing.
use Rattle.state.proofs.Adding.{row_added, row_nowhere}
use Rattle.state.proofs.parts.Parts.add_row.Goals as goal

pub returns-in-Some-clause-added : goal.returns-in-Some-clause-added
returns-in-Some-clause-added c = let e = rw c.in-Some.is at c.free_slot-slot.ensures in row_added e.1 e.0 c.put_at.ensures.0 c.put_at.ensures.1 c.step.ensures

pub returns-in_default-clause-added : goal.returns-in_default-clause-added
returns-in_default-clause-added c = let e = rw c.in_default.is at c.free_slot-slot.ensures in row_nowhere e.0 c.step.ensures
