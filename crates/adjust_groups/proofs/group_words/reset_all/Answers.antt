-- The words before the index are reset. Assumes nothing.
use native.Mathlib.Omega.{arith}
use Rattle.table.specs.Updating.{updating_more}
use Rattle.adjust_groups.proofs.group_words.reset_all.Goals as goal

pub loop-word-preserved : goal.loop-word-preserved
loop-word-preserved c = updating_more 0 _ c.loop-word.invariant (omega (arith, c.loop-word-test.true, c.loop-word.invariant.long)) c.reset_word.ensures
