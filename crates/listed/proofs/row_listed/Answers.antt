-- listed::row_listed meets its contract: by the slot. Assumes nothing.
use borrow.Author.Rules.{rules}
use Rattle.listed.proofs.Listed.{at_free, at_live}
use Rattle.listed.proofs.row_listed.Goals as goal

pub returns-then-words-eq0 : goal.returns-then-words-eq0
returns-then-words-eq0 c = search (rules, at_free)

pub returns : goal.returns
returns c = search (rules, at_live)
