-- One SID more for each number. Assumes nothing.
use Rattle.std.proofs.Common.{ap, arith}
use Rattle.copy.specs.Numbers.{numbers_left}
use Rattle.copy.proofs.NumbersRead.{left_few, yielded_here}
use Rattle.copy.proofs.RestrictingSids.{none_listed}
use Rattle.copy.proofs.restricting.listed.Goals as goal

pub loop-sid-init : goal.loop-sid-init
loop-sid-init c = none_listed

pub push-requires : goal.push-requires
push-requires c =
    let from = ap numbers_left c.into_iter-sid-iterator.ensures.into_iter_gives in
    let here = yielded_here _ _ from _ _ c.loop-sid.yielded_by _ _ c.next.ensures.steps _ c.in-Some.is in
    omega (arith, left_few c.args.given, c.loop-sid.invariant.count, here.0)
