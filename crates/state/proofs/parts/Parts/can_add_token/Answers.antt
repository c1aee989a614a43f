-- A slot is free, and the next number may be given. Assumes nothing.
use borrow.Author.Rules.{rules}
use Rattle.state.proofs.TokenLooks.{can_add_lem}
use Rattle.state.proofs.parts.Parts.can_add_token.Goals as goal

pub returns : goal.returns
returns c = search (rules, can_add_lem)
