-- sid::packed::sub_at meets its contract. Assumes nothing.
use borrow.Author.Rules.{rules}
use Rattle.sid.proofs.Reading.{sub_room, sub_there, sub_none}
use Rattle.sid.proofs.packed.sub_at.Goals as goal

pub four-requires : goal.four-requires
four-requires c = search (rules, sub_room)

pub returns-then-i-n : goal.returns-then-i-n
returns-then-i-n c = search (rules, sub_there)

pub returns-else-i-n : goal.returns-else-i-n
returns-else-i-n c = search (rules, sub_none)
