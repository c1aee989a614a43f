-- sid::valid::rows_valid meets its contract: its loop tests each row. Assumes nothing.
use Rattle.std.proofs.Common.{◌≡◌}
use Rattle.sid.specs.Tests.{all_below, is_row_at}
use Rattle.sid.proofs.valid.rows_valid.Given as goal

abbrev pub invariant-loop-i : goal.invariant-loop-i
invariant-loop-i l = l.ok ≡ all_below (is_row_at l.rows) l.i
