-- By its row, or none. Assumes nothing.
use borrow.Author.Rules.{rules}
use Rattle.state.proofs.TokenScalars.{restricted_given, unrestricted}
use Rattle.state.proofs.parts.Parts.is_restricted.Goals as goal

pub returns-in-Some : goal.returns-in-Some
returns-in-Some c = search (rules, restricted_given)

pub returns-in-None : goal.returns-in-None
returns-in-None c = search (rules, unrestricted)
