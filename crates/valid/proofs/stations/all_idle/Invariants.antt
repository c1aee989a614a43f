-- valid::stations::all_idle meets its contract: its loop tests each row. Assumes nothing.
use mathlib.Core.List.{[]}
use Rattle.lists.proofs.Loops.{Tested}
use Rattle.valid.specs.Tests.{idle_test}
use Rattle.valid.proofs.stations.all_idle.Given as goal

abbrev pub invariant-loop-row : goal.invariant-loop-row
invariant-loop-row l = Tested idle_test [] l.rows l.ok l.row-index
