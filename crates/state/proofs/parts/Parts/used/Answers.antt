-- The row of the caller's token, marked. Assumes nothing.
use borrow.Author.Rules.{rules}
use Rattle.state.proofs.TokenScalars.{used_in_place, used_nowhere}
use Rattle.state.proofs.parts.Parts.used.Goals as goal

pub returns-in-Some-clause-used : goal.returns-in-Some-clause-used
returns-in-Some-clause-used c = search (rules, used_in_place)

pub returns-in_default-clause-used : goal.returns-in_default-clause-used
returns-in_default-clause-used c = search (rules, used_nowhere)
