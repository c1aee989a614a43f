-- sid::packed::load meets its contract: its loop fills the row. Assumes nothing.
use Rattle.sid.proofs.Reading.{Loading}
use Rattle.sid.proofs.packed.load.Given as goal

abbrev pub invariant-loop-i : goal.invariant-loop-i
invariant-loop-i l = Loading l.s l.at l.n l.row l.i
