-- One index after the other. Assumes nothing.
use Rattle.std.proofs.Common.{ap}
use Rattle.copy.specs.Numbers.{numbers_left}
use Rattle.copy.proofs.NumbersRead.{yielded_first, yielded_here}
use Rattle.copy.proofs.DeniedGroups.{none_named, named_next, indexes_bad}
use Rattle.copy.proofs.denied_groups.valid_indexes.Goals as goal

pub loop-index-init : goal.loop-index-init
loop-index-init c = none_named _

pub loop-index-preserved : goal.loop-index-preserved
loop-index-preserved c = named_next _ _ _ c.loop-index.invariant c.requires _ (cc) _ (cc)

pub returns-then-size-index : goal.returns-then-size-index
returns-then-size-index c =
    let from = ap numbers_left c.into_iter-index-iterator.ensures.into_iter_gives in
    indexes_bad _ c.loop-index.invariant c.requires _ (yielded_first _ _ from _ _ c.loop-index.yielded_by)
    (yielded_here _ _ from _ _ c.loop-index.yielded_by _ _ c.next.ensures.steps _ c.in-Some.is) (cc)
