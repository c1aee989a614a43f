-- valid::stations::all_idle meets its contract: its loop tests each row. Assumes nothing.
use borrow.Author.Rules.{rules}
use Rattle.lists.proofs.Loops.{tested_more, tested_done}
use Rattle.valid.proofs.stations.all_idle.Goals as goal

pub loop-row-preserved : goal.loop-row-preserved
loop-row-preserved c = search (rules, tested_more)

pub returns : goal.returns
returns c = search (rules, tested_done)
