-- What is freed in the state without the handle is what the rules' sweep frees. Assumes nothing.
use Rattle.rules.specs.State.{handle_slots}
use Rattle.handle.proofs.Words.{records_long}
use Rattle.state.proofs.ReleaseLaws.{closed, not_closed}
use Rattle.state.proofs.parts.Parts.close.Goals as goal

pub returns-in_err-slot-clause-closed : goal.returns-in_err-slot-clause-closed
returns-in_err-slot-clause-closed c = rw c.from_residual.ensures (not_closed _ _ _ (records_long handle_slots _) c.in_err-slot.ensures.index)

pub returns-clause-closed : goal.returns-clause-closed
returns-clause-closed c =
    closed _ _ _ (records_long handle_slots _) c.in_ok-slot.ensures.within c.in_ok-slot.ensures.index c.at-closed.ensures c.free_unreferenced.ensures.freed
