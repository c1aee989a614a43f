-- The two kinds that name something, and the step of the loop; the others by the laws of Telling. Assumes nothing.
use Rattle.std.proofs.Common.{rules, arith}
use Rattle.condition.proofs.Telling.{one_privilege, one_group, list_goes_on}
use Rattle.condition.proofs.+condition_conditions.Goals as goal

pub condition-returns-in_ok-n-in-4 : goal.condition-returns-in_ok-n-in-4
condition-returns-in_ok-n-in-4 t c = one_privilege c.args.token.now _ _ _ c.if-depth-eq0.false _ _ c.in_ok-number.ensures.read.means _ _ c.in_ok-n-in-4.ensures.read.means (search rules) _ _ (search rules) (search rules)

pub condition-returns-in_ok-sid-in-5 : goal.condition-returns-in_ok-sid-in-5
condition-returns-in_ok-sid-in-5 t c = one_group c.args.token.now _ _ _ c.if-depth-eq0.false _ _ c.in_ok-number.ensures.read.means _ _ c.in_ok-sid-in-5.ensures.read.means (search rules) _ (search rules)

pub conditions-loop-preserved : goal.conditions-loop-preserved
conditions-loop-preserved t c = list_goes_on _ _ _ _ _ _ _ _ _ c.loop.invariant (omega arith) _ _ _ c.in_ok-next.ensures _ c.joined-value.ensures
