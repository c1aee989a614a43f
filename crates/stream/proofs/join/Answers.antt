-- `join` meets its contract. The loop's invariant: what is left of the chunk gives what the whole gives. Assumes nothing.
use borrow.Author.Rules.{rules}
use Rattle.stream.proofs.Joining.{turn_goes_on, turn_ends}
use Rattle.stream.proofs.join.Goals as goal

pub loop-i-preserved : goal.loop-i-preserved
loop-i-preserved c = turn_goes_on c.loop-i.invariant c.join_at_once-k.ensures c.framed-what.result c.framed-what.ensures c.in-Part.is

pub returns-in_default : goal.returns-in_default
returns-in_default c = search (rules, turn_ends)
