-- handle::refers meets its contract: its loop gathers whether a slot refers to the token. Assumes nothing.
use lib.ListN.{set}
use Rattle.rules.specs.State.{handle_slots}
use Rattle.handle.specs.Meaning.{none, refers_to}
use Rattle.handle.specs.Words.{records_in}
use Rattle.handle.proofs.Rest.{Gathering}
use Rattle.handle.proofs.Slots.{is_referred}
use Rattle.handle.proofs.refers.Given as goal

abbrev pub invariant-loop-i : goal.invariant-loop-i
invariant-loop-i l = Gathering (refers_to l.token) (is_referred l.token) none (set (records_in l.words) l.freed none) handle_slots (is_referred l.token (set (records_in l.words) l.freed none)) l.found l.i
