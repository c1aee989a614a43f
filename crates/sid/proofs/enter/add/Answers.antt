-- sid::enter::add meets its contract: its stores, one after the other. Assumes nothing.
use borrow.Author.Rules.{rules}
use Rattle.sid.proofs.Entering.{added_made}
use Rattle.sid.proofs.enter.add.Goals as goal

pub returns : goal.returns
returns c = search (rules, added_made)
