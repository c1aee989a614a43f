-- references::handles::fields_valid meets its contract: by whether the slot is free. Assumes nothing.
use borrow.Author.Rules.{rules}
use Rattle.rules.specs.Valid.{handle_valid}
use Rattle.lists.proofs.Truth.{if_other}
use Rattle.references.proofs.handles.fields_valid.Goals as goal

pub returns : goal.returns
unfolding handle_valid
returns c = rw c.valid.ensures (search (rules, if_other))
