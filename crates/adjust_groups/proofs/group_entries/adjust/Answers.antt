-- The entries are made. Assumes nothing.
use Rattle.adjust_groups.proofs.GroupEntries.{all_switched}
use Rattle.adjust_groups.proofs.group_entries.adjust.Goals as goal

pub returns : goal.returns
returns c = all_switched _ _ _ _ c.is_just.ensures c.if-is_just.false c.if-count-eq0.false c.in-Some.ensures c.make.ensures c.enabled_word-previous.ensures c.if-not-g.false
