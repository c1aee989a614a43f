-- One word of the token's row. Assumes nothing.
use borrow.Author.Rules.{rules}
use Rattle.state.proofs.TokenScalars.{elevated_in_place, elevated_nowhere}
use Rattle.state.proofs.parts.Parts.elevate.Goals as goal

pub returns-in-Some-clause-changed : goal.returns-in-Some-clause-changed
returns-in-Some-clause-changed c = search (rules, elevated_in_place)

pub returns-in_default-clause-changed : goal.returns-in_default-clause-changed
returns-in_default-clause-changed c = search (rules, elevated_nowhere)
