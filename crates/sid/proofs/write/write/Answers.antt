-- sid::write::write meets its contract: its loop writes the halves of the words. Assumes nothing.
use borrow.Author.Rules.{rules}
use lib.ListN.{length}
use mathlib.Core.Path.{ap, sym, ◌∙◌}
use Rattle.sid.proofs.Writing.{writing_none, writing_more, writing_done, no_row_size, no_row, no_room}
use Rattle.sid.proofs.write.write.Goals as goal

pub returns-in_err-row : goal.returns-in_err-row
returns-in_err-row c = rw c.from_residual.ensures (search (rules, no_row_size, c.in_err-row.ensures.cases))

pub returns-then-not-is_row : goal.returns-then-not-is_row
returns-then-not-is_row c =
    let e = c.in_ok-row.ensures.cases in
    rw (sym e.same) (no_row c.in_ok-row.row.now _ (ap length e.same ∙ e.long) c.is_row.ensures (search rules))

pub returns-then-out-size : goal.returns-then-out-size
returns-then-out-size c = rw (sym c.in_ok-row.ensures.cases.same) (search (rules, no_room))

pub loop-i-init : goal.loop-i-init
loop-i-init c = search (rules, writing_none)

pub loop-i-preserved : goal.loop-i-preserved
loop-i-preserved c = writing_more c.loop-i.invariant c.loop-i-test.true c.half.result _ c.half.ensures (c.copy.ensures ∙ c.to_le_bytes.ensures)

pub returns : goal.returns
returns c = rw (sym c.in_ok-row.ensures.cases.same) (search (rules, writing_done))
