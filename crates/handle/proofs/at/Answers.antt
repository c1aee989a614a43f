-- handle::at meets its contract. Assumes nothing.
use borrow.Author.Rules.{rules}
use Rattle.handle.proofs.Words.{slot_past, slot_read}
use Rattle.handle.proofs.at.Goals as goal

pub returns-then-slot-ge-SLOTS : goal.returns-then-slot-ge-SLOTS
returns-then-slot-ge-SLOTS c = search (rules, slot_past)

pub returns : goal.returns
returns c = search (rules, slot_read)
