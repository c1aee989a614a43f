-- The words hold the first records of the list, up to the slot. Assumes nothing.
use Rattle.std.proofs.Common.{take}
use Rattle.handle.specs.Words.{records_in}
use Rattle.handle.proofs.Lent.{Loads}
use Rattle.handle.proofs.list.load.Given as goal

abbrev pub invariant-loop-slot : goal.invariant-loop-slot
invariant-loop-slot l = Loads (take l.n l.list) l.slot (records_in l.words)
