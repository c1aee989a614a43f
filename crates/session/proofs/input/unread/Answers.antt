-- `unread` meets its contract. Assumes nothing.
use borrow.Author.Rules.{rules}
use Rattle.session.proofs.Saying.{waits, stops}
use Rattle.session.proofs.input.unread.Goals as goal

pub returns-then-is_cut : goal.returns-then-is_cut
returns-then-is_cut c = search (rules, waits)

pub returns-else-is_cut : goal.returns-else-is_cut
returns-else-is_cut c = search (rules, stops)
