-- One entry after the other. Assumes nothing.
use Rattle.adjust_groups.proofs.GroupEntries.{Making}
use Rattle.adjust_groups.proofs.group_entries.make.Given as goal

abbrev pub invariant-loop : goal.invariant-loop
invariant-loop l = Making l.s l.start l.count l.initial.groups l.groups l.at l.counter
