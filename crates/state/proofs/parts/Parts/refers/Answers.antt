-- By the handles, or by the control words. Assumes nothing.
use borrow.Author.Rules.{rules}
use Rattle.state.proofs.ReleaseLaws.{referred}
use Rattle.state.proofs.parts.Parts.refers.Goals as goal

pub returns : goal.returns
returns c = search (rules, referred)
