-- `refill` meets its contract. Assumes nothing.
use borrow.Author.Rules.{rules}
use Rattle.obriska.proofs.Holding.{refilled}
use Rattle.obriska.proofs.refill.Goals as goal

pub returns-in-Ok : goal.returns-in-Ok
returns-in-Ok g c = refilled _ _ _ c.read.new.buf _ c.keep-kept.ensures c.requires (search rules) c.in-Ok.n (search rules) (search rules) (search rules)
