-- The handle at the index that is found. Assumes nothing.
use borrow.Author.Rules.{rules}
use native.Mathlib.Omega.{arith}
use Rattle.rules.specs.State.{handle_slots}
use Rattle.handle.proofs.Words.{records_long}
use Rattle.state.proofs.HandleLaws.{handle_given, no_handle_given, found_numbered}
use Rattle.state.proofs.parts.Parts.find_handle.Goals as goal

pub returns-in_err-slot-clause-given : goal.returns-in_err-slot-clause-given
returns-in_err-slot-clause-given c = rw c.from_residual.ensures (no_handle_given _ _ _ c.in_err-slot.ensures.index (records_long handle_slots _) (omega arith))

pub returns-clause-given : goal.returns-clause-given
returns-clause-given c = search (rules, handle_given, c.in_ok-slot.ensures.index)

pub returns-clause-live : goal.returns-clause-live
returns-clause-live c = found_numbered _ _ _ c.in_ok-slot.ensures.index (records_long handle_slots _) c.in_ok-slot.ensures.within c.at.ensures
