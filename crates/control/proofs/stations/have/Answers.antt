-- Its loop gathers, of every state that the words hold, whether a station's row has the number. Assumes nothing.
use borrow.Author.Rules.{rules}
use Rattle.control.proofs.Referring.{asking_none, asking_more}
use Rattle.control.proofs.stations.have.Goals as goal

pub loop-i-init : goal.loop-i-init
loop-i-init c = search (rules, asking_none)

pub loop-i-preserved : goal.loop-i-preserved
loop-i-preserved c = search (rules, asking_more)
