-- token_rows::tokens_valid meets its contract: its loop tests each row. Assumes nothing.
use Rattle.std.proofs.Common.{length}
use Rattle.table.specs.Rows.{RowsTested}
use Rattle.rules.specs.Token.{max_dacl}
use Rattle.rules.specs.State.{token_slots}
use Rattle.rules.specs.Memory.{token_words}
use Rattle.token_rows.specs.Tests.{token_test}
use Rattle.token_rows.proofs.tokens_valid.Given as goal

abbrev pub invariant-loop-words : goal.invariant-loop-words
invariant-loop-words l = RowsTested token_test token_words max_dacl token_slots l.tokens l.dacls l.ok (length l.yielded)
