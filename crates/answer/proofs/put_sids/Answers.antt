-- After i turns the first i SIDs are stored. Assumes nothing.
use borrow.Author.Rules.{rules}
use Rattle.answer.proofs.ClassLists.{no_sid_in, sid_in, few_sids, sids_stored}
use Rattle.answer.proofs.Answers.{same_room, same_wrote}
use Rattle.answer.proofs.put_sids.Goals as goal

pub loop-i-init : goal.loop-i-init
loop-i-init c = search (rules, no_sid_in)

pub loop-i-preserved : goal.loop-i-preserved
loop-i-preserved c = search (rules, sid_in)

pub put_all-requires : goal.put_all-requires
put_all-requires c = search (rules, same_room, few_sids, sids_stored)

pub returns : goal.returns
returns c = search (rules, same_wrote, sids_stored)
