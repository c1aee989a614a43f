-- By the count or the mark. Assumes nothing.
use Rattle.restrict_packed.proofs.Keeping.{none_given, stays_marked, stays_past}
use Rattle.restrict_packed.proofs.kept.stays.Goals as goal

pub returns-then-count-eq0 : goal.returns-then-count-eq0
returns-then-count-eq0 c = none_given _ _ _ c.if-count-eq0.true

pub returns-then-sid : goal.returns-then-sid
returns-then-sid c = stays_marked _ _ _ c.if-count-eq0.false c.if-sid.true

pub returns-else-sid : goal.returns-else-sid
returns-else-sid c = stays_past _ _ _ c.if-count-eq0.false c.if-sid.false
