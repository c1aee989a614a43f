-- lists::numbers::all_given meets its contract: its loop tests each number. Assumes nothing.
use Rattle.std.proofs.Common.{◌≡◌, length, arith}
use Rattle.lists.proofs.Loops.{tested_more, tested_done, numbers_long, number_at}
use Rattle.lists.proofs.numbers.all_given.Goals as goal

pub loop-x-preserved : goal.loop-x-preserved
loop-x-preserved g c =
    let t = g.T.Number in
    let s = c.args.s.now in
    let long : length (t.numbers s) ≡ length s = numbers_long t.in_turn s in
    let at = number_at t.in_turn s c.loop-x.x-index c.x-item.result c.loop-x-test.true c.x-item.is in
    tested_more _ _ _ c.loop-x.invariant (omega arith) (cc (at, c.is_given-ok.ensures))

pub returns : goal.returns
returns g c = let t = g.T.Number in let long : length (t.numbers c.args.s.now) ≡ length c.args.s.now = numbers_long t.in_turn c.args.s.now in tested_done _ _ _ c.loop-x.invariant (omega arith)
