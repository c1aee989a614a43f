-- sid::valid::rows_valid meets its contract: its loop tests each row. Assumes nothing.
use mathlib.Core.Path.{refl, ap, ◌∙◌}
use Rattle.rules.specs.SidRows.{is_row}
use Rattle.sid.specs.Tests.{all_below}
use Rattle.sid.proofs.Loops.{seen_more}
use Rattle.sid.proofs.valid.rows_valid.Goals as goal

pub loop-i-init : goal.loop-i-init
unfolding all_below
loop-i-init c = refl

pub loop-i-preserved : goal.loop-i-preserved
loop-i-preserved c = seen_more c.args.rows.now c.loop-i.i c.loop-i.invariant (c.is_row-ok.ensures ∙ ap is_row c.row.ensures)
