-- references::columns::numbers meets its contract: its loop keeps what is not 0 of a column. Assumes nothing.
use mathlib.Core.List.{[]}
use Rattle.rules.specs.State.{token_slots}
use Rattle.rules.specs.Memory.{token_words}
use Rattle.references.specs.Tests.{column_by}
use Rattle.references.proofs.Loops.{Keeping}
use Rattle.references.proofs.columns.numbers.Given as goal

abbrev pub invariant-loop-row : goal.invariant-loop-row
invariant-loop-row g l = Keeping (λ x. x) (λ x. x) (column_by g.f token_words token_slots l.tokens) [] token_slots token_slots l.numbers l.count l.row-index
