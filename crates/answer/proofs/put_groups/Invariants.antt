-- After i turns the first i groups are stored. Assumes nothing.
use Rattle.answer.proofs.ClassLists.{PairsIn}
use Rattle.answer.proofs.put_groups.Given as goal

abbrev pub invariant-loop-i : goal.invariant-loop-i
invariant-loop-i l = PairsIn l.groups l.fields l.i
