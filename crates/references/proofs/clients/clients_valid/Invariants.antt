-- references::clients::clients_valid meets its contract: its loop tests each row. Assumes nothing.
use mathlib.Core.List.{[]}
use Prim.Native.Nat.{ℕ}
use Rattle.table.specs.Rows.{RowsTested}
use Rattle.rules.specs.State.{station_count}
use Rattle.rules.specs.Memory.{station_words, stations_in}
use Rattle.references.specs.Tests.{client_test}
use Rattle.references.proofs.clients.clients_valid.Given as goal

abbrev pub invariant-loop-row : goal.invariant-loop-row
invariant-loop-row l = RowsTested {B = ℕ} (λ row none. client_test l.tokens row) station_words 0 station_count (stations_in l.control) [] l.ok l.row-index
