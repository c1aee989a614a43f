-- The words are the client and its level. Assumes nothing.
use borrow.Author.Rules.{rules}
use Rattle.control.proofs.StationRows.{client_given}
use Rattle.control.proofs.stations.client_of.Goals as goal

pub returns : goal.returns
returns c = search (rules, client_given)
