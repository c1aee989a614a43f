-- `sized` meets its contract. Assumes nothing.
use borrow.Author.Rules.{rules}
use Rattle.session.proofs.Saying.{without, too_large, too_few, there}
use Rattle.session.proofs.input.sized.Goals as goal

pub returns-then-size-gt-MAX_CHUNK : goal.returns-then-size-gt-MAX_CHUNK
returns-then-size-gt-MAX_CHUNK c = search (rules, too_large)

pub returns-then-left-n : goal.returns-then-left-n
returns-then-left-n c = search (rules, too_few)

pub returns-in_default : goal.returns-in_default
returns-in_default c = search (rules, without)

pub returns : goal.returns
returns c = search (rules, there)
