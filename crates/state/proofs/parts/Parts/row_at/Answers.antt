-- The chunk of the slot. Assumes nothing.
use Rattle.std.proofs.Common.{rules}
use Rattle.state.proofs.TokenLooks.{row_given}
use Rattle.state.proofs.parts.Parts.row_at.Goals as goal

pub returns : goal.returns
returns c = row_given c.args.slot c.args.self.now.tokens.now (search rules) c.as_chunks.ensures.front c.get.result c.get.ensures.lookup
