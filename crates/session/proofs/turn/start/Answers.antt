-- `start` meets its contract. Assumes nothing.
use borrow.Author.Rules.{rules}
use Rattle.session.proofs.Turning.{started}
use Rattle.session.proofs.turn.start.Goals as goal

pub returns : goal.returns
returns c = search (rules, started)
