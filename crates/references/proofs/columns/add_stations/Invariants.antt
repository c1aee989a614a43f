-- references::columns::add_stations meets its contract: its loop writes a token more. Assumes nothing.
use Rattle.rules.specs.Memory.{stations_in}
use Rattle.references.proofs.Lists.{Adding}
use Rattle.references.proofs.columns.add_stations.Given as goal

abbrev pub invariant-loop-i : goal.invariant-loop-i
invariant-loop-i g l = Adding g.f l.n (stations_in l.control) l.initial.referred l.referred l.i
