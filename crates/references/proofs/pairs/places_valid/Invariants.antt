-- references::pairs::places_valid meets its contract: its loop tests each row. Assumes nothing.
use mathlib.Core.List.{[]}
use Prim.Native.Nat.{ℕ}
use Rattle.table.specs.Rows.{RowsTested}
use Rattle.rules.specs.State.{pair_slots}
use Rattle.rules.specs.Memory.{pair_words, pairs_in}
use Rattle.references.specs.Tests.{pair_test}
use Rattle.references.proofs.pairs.places_valid.Given as goal

abbrev pub invariant-loop-row : goal.invariant-loop-row
invariant-loop-row l = RowsTested {B = ℕ} (λ row none. pair_test l.tokens row) pair_words 0 pair_slots (pairs_in l.control) [] l.ok l.row-index
