-- handle::free_slot meets its contract: what it looks for, slot by slot. Assumes nothing.
use borrow.Author.Rules.{rules}
use Rattle.handle.proofs.Rest.{first_index}
use Rattle.handle.proofs.Slots.{first_free}
use Rattle.handle.proofs.Words.{records_long}
use Rattle.handle.specs.Meaning.{none}
use Rattle.rules.specs.State.{handle_slots}
use Rattle.handle.specs.Words.{records_in}
use Rattle.handle.proofs.free_slot.Goals as goal

pub returns-clause-index : goal.returns-clause-index
returns-clause-index c = first_index first_free none (records_in c.args.words.now) (records_long handle_slots c.args.words.now) (λ k b l h. search rules) c.position.ensures
