-- `feed` meets its contract. Assumes nothing.
use borrow.Author.Rules.{rules}
use Rattle.session.proofs.Turning.{turned}
use Rattle.session.proofs.turn.feed.Goals as goal

pub returns-clause-turns : goal.returns-clause-turns
returns-clause-turns c = search (rules, turned c.args.chunk.now (λ i. (c.type_inv.chunk i).fits) c.args.station c.args.memory.now)
