-- The words before the index are reset. Assumes nothing.
use lib.ListN.{length}
use Rattle.table.specs.Updating.{Updating}
use Rattle.rules.specs.AdjustGroups.{reset_group}
use Rattle.token.specs.Row.{on_word}
use Rattle.adjust_groups.proofs.group_words.reset_all.Given as goal

abbrev pub invariant-loop-word : goal.invariant-loop-word
invariant-loop-word l = Updating (on_word reset_group) (length l.initial.groups) l.initial.groups l.groups l.word-index
