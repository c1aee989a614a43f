-- token_rows::groups_valid meets its contract: its loop gathers the words and what they carry to. Assumes nothing.
use Rattle.lists.proofs.Loops.{Gathered}
use Rattle.token_rows.proofs.Groups.{lacks, attributes_test, half_test, both_test}
use Rattle.token_rows.proofs.groups_valid.Given as goal

abbrev pub invariant-loop-w : goal.invariant-loop-w
invariant-loop-w l = Gathered attributes_test attributes_test l.s l.any l.w-index × Gathered (lacks 63) half_test l.s l.carry l.w-index × Gathered (lacks 37) both_test l.s l.carry l.w-index
