-- The indexes, the modified number, and the DACL if it is given. Assumes nothing.
use borrow.Author.Rules.{rules}
use Rattle.adjust_defaults.proofs.DefaultFields.{dacl_kept, dacl_set}
use Rattle.adjust_defaults.proofs.default_fields.set.Goals as goal

pub returns-then-f-eq1 : goal.returns-then-f-eq1
returns-then-f-eq1 c = search (rules, dacl_set)

pub returns-else-f-eq1 : goal.returns-else-f-eq1
returns-else-f-eq1 c = search (rules, dacl_kept)
