-- `run` meets its contract. Assumes nothing.
use borrow.Author.Rules.{rules}
use Rattle.obriska.specs.Serving.{none, turn}
use Rattle.obriska.proofs.Holding.{stops}
use Rattle.obriska.proofs.run.Goals as goal

pub loop-chunks-init : goal.loop-chunks-init
loop-chunks-init g c = search (rules, none)

pub loop-chunks-preserved : goal.loop-chunks-preserved
loop-chunks-preserved g c = search (rules, turn)

pub returns-in-Break-clause-ends : goal.returns-in-Break-clause-ends
returns-in-Break-clause-ends g c = search (rules, stops)
