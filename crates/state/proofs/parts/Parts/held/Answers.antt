-- The caller's token has it enabled. Assumes nothing.
use borrow.Author.Rules.{rules}
use Rattle.state.proofs.TokenScalars.{held_given}
use Rattle.state.proofs.parts.Parts.held.Goals as goal

pub returns : goal.returns
returns c = search (rules, held_given)
