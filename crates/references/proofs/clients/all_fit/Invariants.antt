-- references::clients::all_fit meets its contract: its loop tests each row. Assumes nothing.
use mathlib.Core.List.{[]}
use Prim.Native.Nat.{ℕ}
use Rattle.table.specs.Rows.{RowsTested}
use Rattle.rules.specs.State.{token_slots}
use Rattle.rules.specs.Memory.{token_words}
use Rattle.references.specs.Tests.{fit_test}
use Rattle.references.proofs.clients.all_fit.Given as goal

abbrev pub invariant-loop-row : goal.invariant-loop-row
invariant-loop-row l = RowsTested {B = ℕ} (λ row none. fit_test l.client l.level row) token_words 0 token_slots l.tokens [] l.ok l.row-index
