-- The status, the count and the bytes. Assumes nothing.
use borrow.Author.Rules.{rules}
use Rattle.answer.proofs.Answers.{dacl_room, dacl_framed}
use Rattle.answer.proofs.put_dacl.Goals as goal

pub answer-requires : goal.answer-requires
answer-requires c = search (rules, dacl_room)

pub returns : goal.returns
returns c = search (rules, dacl_framed)
