-- After i turns the first i SIDs are stored. Assumes nothing.
use Rattle.answer.proofs.ClassLists.{SidsIn}
use Rattle.answer.proofs.put_sids.Given as goal

abbrev pub invariant-loop-i : goal.invariant-loop-i
invariant-loop-i l = SidsIn l.sids l.fields l.i
