-- One by one. Assumes nothing.
use Rattle.restrict_packed.proofs.Gathering.{Gathering}
use Rattle.restrict_packed.proofs.gathered.gather.Given as goal

abbrev pub invariant-loop : goal.invariant-loop
invariant-loop l = Gathering l.s l.at l.count l.initial.sids l.sids l.marks l.list l.from l.counter
