-- The chunk of the slot. Assumes nothing.
use Rattle.std.proofs.Common.{rules, refl}
use Rattle.state.proofs.TokenLooks.{row_lent}
use Rattle.state.proofs.parts.Parts.row.Goals as goal

pub returns : goal.returns
returns c = row_lent c.args.slot c.args.self.now.tokens.now (search rules) c.as_chunks.ensures.front _ c.requires refl
