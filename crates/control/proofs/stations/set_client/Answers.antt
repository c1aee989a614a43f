-- The words that are stored are the client and its level. Assumes nothing.
use borrow.Author.Rules.{rules}
use Rattle.control.proofs.StationRows.{client_set}
use Rattle.control.proofs.stations.set_client.Goals as goal

pub returns : goal.returns
returns c = search (rules, client_set)
