-- handle::refers meets its contract: its loop gathers whether a slot refers to the token. Assumes nothing.
use borrow.Author.Rules.{rules}
use Rattle.handle.proofs.Rest.{gather_more}
use Rattle.handle.proofs.Slots.{some_refers, refers_beside}
use Rattle.handle.proofs.Words.{freed_long}
use Rattle.handle.proofs.refers.Goals as goal

pub loop-i-init : goal.loop-i-init
loop-i-init c = search (rules, some_refers, freed_long)

pub loop-i-preserved : goal.loop-i-preserved
loop-i-preserved c = search (rules, gather_more, refers_beside)
