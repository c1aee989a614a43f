-- references::columns::add_pairs meets its contract: its loop keeps a word of the live pairs' rows. Assumes nothing.
use Rattle.rules.specs.Memory.{pairs_in}
use Rattle.references.proofs.Lists.{Joining}
use Rattle.references.proofs.columns.add_pairs.Given as goal

abbrev pub invariant-loop-row : goal.invariant-loop-row
invariant-loop-row l = Joining l.word l.n (pairs_in l.control) l.initial.out l.out l.m l.row-index
