-- list::load copies one record more at each turn. Assumes nothing.
use Rattle.std.proofs.Common.{take, ◌*◌}
use Rattle.rules.specs.State.{handle_slots}
use Rattle.handle.specs.Words.{slot_words}
use Rattle.handle.proofs.Words.{zeros_free}
use Rattle.handle.proofs.Lent.{loads_none, loads_more, loads_done}
use Rattle.handle.proofs.list.load.Goals as goal

pub loop-slot-init : goal.loop-slot-init
loop-slot-init c = loads_none (take c.min-n.result c.args.list.now) (zeros_free handle_slots (handle_slots * slot_words))

pub loop-slot-preserved : goal.loop-slot-preserved
loop-slot-preserved c = loads_more (take c.min-n.result c.args.list.now) c.loop-slot.invariant c.loop-slot-test.true c.put.ensures

pub returns : goal.returns
returns c = loads_done c.args.list.now c.loop-slot.invariant c.loop-slot-test.false c.min-n.ensures
