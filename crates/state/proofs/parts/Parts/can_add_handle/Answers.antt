-- By the lowest free slot and the next number. Assumes nothing.
use borrow.Author.Rules.{rules}
use Rattle.state.proofs.HandleLaws.{handle_room}
use Rattle.state.proofs.parts.Parts.can_add_handle.Goals as goal

pub returns : goal.returns
returns c = search (rules, handle_room)
