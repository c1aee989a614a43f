-- `serve` meets its contract. Assumes nothing.
use borrow.Author.Rules.{rules}
use Rattle.obriska.proofs.Steps.{ends}
use Rattle.obriska.proofs.serve.Goals as goal

pub returns-clause-serves : goal.returns-clause-serves
returns-clause-serves g c = search (rules, ends)
