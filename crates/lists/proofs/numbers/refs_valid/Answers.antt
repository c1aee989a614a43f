-- lists::numbers::refs_valid meets its contract: its loop counts each number. Assumes nothing.
use borrow.Author.Rules.{rules}
use Rattle.lists.proofs.Loops.{tallying_more, tallying_done}
use Rattle.lists.proofs.numbers.refs_valid.Goals as goal

pub loop-x-preserved : goal.loop-x-preserved
loop-x-preserved c = search (rules, tallying_more)

pub returns : goal.returns
returns c = search (rules, tallying_done)
