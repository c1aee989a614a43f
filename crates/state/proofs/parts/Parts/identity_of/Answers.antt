-- By its row, or none. Assumes nothing.
use borrow.Author.Rules.{rules}
use Rattle.state.proofs.TokenScalars.{identity_given, nobody}
use Rattle.state.proofs.parts.Parts.identity_of.Goals as goal

pub returns-in-Some : goal.returns-in-Some
returns-in-Some c = search (rules, identity_given)

pub returns-in-None : goal.returns-in-None
returns-in-None c = search (rules, nobody)
