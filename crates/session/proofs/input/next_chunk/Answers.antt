-- `next_chunk` meets its contract. Assumes nothing.
use borrow.Author.Rules.{rules}
use Rattle.session.proofs.Saying.{unread_next, sized_next, fits}
use Rattle.session.proofs.input.next_chunk.Goals as goal

pub overflow_cast-station : goal.overflow_cast-station
overflow_cast-station c = search (rules, fits)

pub returns-in-None : goal.returns-in-None
returns-in-None c = search (rules, unread_next)

pub returns-in-Some : goal.returns-in-Some
returns-in-Some c = search (rules, sized_next)
