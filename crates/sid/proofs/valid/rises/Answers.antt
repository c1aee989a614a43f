-- sid::valid::rises meets its contract: its loop compares neighbours. Assumes nothing.
use mathlib.Core.Path.{ap₂, ◌∙◌}
use Rattle.rules.specs.SidRows.{less}
use Rattle.sid.proofs.Loops.{rises_none, rises_more, rises_done, next_inside}
use Rattle.sid.proofs.valid.rises.Goals as goal

pub loop-next-init : goal.loop-next-init
loop-next-init c = rises_none c.args.places.now c.args.rows.now c.requires.1 c.requires.2

pub row-requires-in-loop-next : goal.row-requires-in-loop-next
row-requires-in-loop-next c = (c.requires.0, next_inside c.args.places.now c.loop-next.next-index c.requires.2 c.loop-next-test.true)

pub loop-next-preserved : goal.loop-next-preserved
loop-next-preserved c =
    rises_more c.args.places.now c.args.rows.now c.requires.2 c.loop-next.invariant c.loop-next-test.true (c.less-ok.ensures ∙ ap₂ less c.row.ensures c.row-in-loop-next.ensures)

pub returns : goal.returns
returns c = rises_done c.loop-next.invariant c.loop-next-test.false
