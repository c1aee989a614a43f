-- listed::each_listed meets its contract: its loop tests each word. Assumes nothing.
use borrow.Author.Rules.{rules}
use Rattle.lists.proofs.Loops.{tested_more, tested_done}
use Rattle.listed.proofs.each_listed.Goals as goal

pub loop-w-preserved : goal.loop-w-preserved
loop-w-preserved c = search (rules, tested_more)

pub returns : goal.returns
returns c = search (rules, tested_done)
