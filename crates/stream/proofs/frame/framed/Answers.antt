-- `framed` meets its contract. Assumes nothing.
use borrow.Author.Rules.{rules}
use Rattle.stream.proofs.Framing.{body_full}
use Rattle.stream.proofs.frame.framed.Goals as goal

pub returns-else-pending-start : goal.returns-else-pending-start
returns-else-pending-start c = search (rules, body_full)
