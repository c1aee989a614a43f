-- valid::stations::stations_valid meets its contract: by whether all are idle, and if not its loop tests each row. Assumes nothing.
use lib.ListN.{length}
use Rattle.table.specs.Rows.{RowsTested}
use Rattle.rules.specs.State.{station_count}
use Rattle.rules.specs.Memory.{station_words, pending_bytes, stations_in}
use Rattle.valid.specs.Tests.{station_test}
use Rattle.valid.proofs.stations.stations_valid.Given as goal

abbrev pub invariant-loop-row : goal.invariant-loop-row
invariant-loop-row l = RowsTested station_test station_words pending_bytes station_count (stations_in l.control) l.pending l.ok (length l.yielded)
