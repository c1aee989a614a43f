-- The lowest free slot is changed, and the next number steps. Assumes nothing.
use borrow.Author.Rules.{rules}
use Rattle.state.proofs.HandleLaws.{handle_added}
use Rattle.state.proofs.parts.Parts.add_handle.Goals as goal

pub returns-clause-added : goal.returns-clause-added
returns-clause-added c = search (rules, handle_added)
