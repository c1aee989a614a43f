-- A free slot's rows are zeros. Assumes nothing.
use Rattle.std.proofs.Common.{rules}
use Rattle.rules.specs.Memory.{slot_row, slot_dacl}
use Rattle.token.proofs.slots.clear_at.Goals as goal

pub returns : goal.returns
unfolding slot_row slot_dacl
returns c = search rules
