-- sid::find::shift meets its contract: each place gets the one before it, the first one the new one. Assumes nothing.
use Rattle.std.proofs.Common.{rules}
use Rattle.sid.proofs.Finding.{carried_none, carried_more, carried_done}
use Rattle.sid.proofs.find.shift.Goals as goal

pub loop-i-init : goal.loop-i-init
loop-i-init c = search (rules, carried_none)

pub loop-i-preserved : goal.loop-i-preserved
loop-i-preserved c = search (rules, carried_more)

pub returns : goal.returns
returns c = search (rules, carried_done)
