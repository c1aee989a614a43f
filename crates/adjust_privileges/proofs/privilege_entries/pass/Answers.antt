-- `pass` meets its contract. The loop's invariant: the entries still to come, from here on, give what all entries give. Assumes nothing.
use Rattle.rules.specs.Request.{entry}
use Rattle.body.proofs.Folding.{count_end, count_lost, count_next}
use Rattle.body.proofs.Passes.{stops_all}
use Rattle.adjust_privileges.proofs.privilege_entries.pass.Goals as goal

pub returns-in_err-e : goal.returns-in_err-e
returns-in_err-e c = rw c.from_residual.ensures (count_lost entry _ _ c.args.s.now c.loop.at _ _ _ _ c.loop.invariant c.loop-test.true c.in_err-e.ensures.means)

pub returns-in_err-g : goal.returns-in_err-g
returns-in_err-g c = rw c.from_residual-in_err-g.ensures
    (stops_all _ _ _ (count_next entry _ _ c.args.s.now c.loop.at _ _ _ _ c.loop.invariant c.loop-test.true _ c.in_ok-e.e.next c.in_ok-e.ensures.means _ c.in_err-g.ensures))

pub loop-preserved : goal.loop-preserved
loop-preserved c = count_next entry _ _ c.args.s.now c.loop.at _ _ _ _ c.loop.invariant c.loop-test.true _ c.in_ok-e.e.next c.in_ok-e.ensures.means _ c.in_ok-g.ensures

pub returns : goal.returns
returns c = count_end entry _ _ c.args.s.now c.loop.at _ _ _ _ c.loop.invariant c.loop-test.false
