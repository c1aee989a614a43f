-- The pairs read so far are entered. Assumes nothing.
use borrow.Author.Rules.{rules}
use Rattle.create.proofs.NewGroups.{too_many_groups, none_entered, all_read, one_missing, one_bad, one_entered}
use Rattle.create.proofs.groups.read_groups.Goals as goal

pub returns-then-count-gt-MAX_GROUPS : goal.returns-then-count-gt-MAX_GROUPS
returns-then-count-gt-MAX_GROUPS c = search (rules, too_many_groups)

pub loop-n-init : goal.loop-n-init
loop-n-init c = search (rules, none_entered)

pub returns-in_default : goal.returns-in_default
returns-in_default c = one_missing _ _ _ _ _ (search rules) c.loop-n.invariant (search rules) c.in_default.ensures

pub returns-then-not-fits : goal.returns-then-not-fits
returns-then-not-fits c = one_bad _ _ _ _ _ (search rules) c.loop-n.invariant (search rules) c.in-Some.field-0 c.in-Some.ensures c.fits.ensures (search rules)

pub loop-n-preserved : goal.loop-n-preserved
loop-n-preserved c = search (rules, one_entered)

pub returns : goal.returns
returns c = search (rules, all_read)
