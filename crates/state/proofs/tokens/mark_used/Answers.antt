-- The row with the bits. Assumes nothing.
use borrow.Author.Rules.{rules}
use Rattle.state.proofs.TokenScalars.{marked}
use Rattle.state.proofs.tokens.mark_used.Goals as goal

pub returns : goal.returns
returns c = search (rules, marked)
