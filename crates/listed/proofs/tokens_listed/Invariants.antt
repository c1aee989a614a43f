-- listed::tokens_listed meets its contract: its loop tests each row. Assumes nothing.
use mathlib.Core.List.{[]}
use Rattle.table.specs.Rows.{RowsTested}
use Rattle.rules.specs.State.{token_slots}
use Rattle.rules.specs.Memory.{token_words}
use Rattle.listed.specs.Tests.{row_test}
use Rattle.listed.proofs.tokens_listed.Given as goal

abbrev pub invariant-loop-row : goal.invariant-loop-row
invariant-loop-row l = RowsTested (row_test l.last) token_words 0 token_slots l.tokens [] l.ok l.row-index
