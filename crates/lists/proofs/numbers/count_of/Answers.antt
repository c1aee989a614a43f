-- lists::numbers::count_of meets its contract: its loop counts the number. Assumes nothing.
use Rattle.lists.proofs.Loops.{counting_more, counting_done}
use Rattle.lists.proofs.numbers.count_of.Goals as goal

pub loop-y-preserved : goal.loop-y-preserved
loop-y-preserved g c = counting_more g.T.Number.in_turn _ _ c.y-item.result c.loop-y.invariant c.loop-y-test.true c.y-item.is c.counted-n.ensures

pub returns : goal.returns
returns g c = counting_done g.T.Number.in_turn _ _ c.loop-y.invariant c.loop-y-test.false
