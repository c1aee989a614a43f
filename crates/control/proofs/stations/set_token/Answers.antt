-- The word that is stored is the primary token. Assumes nothing.
use borrow.Author.Rules.{rules}
use Rattle.control.proofs.StationRows.{token_set}
use Rattle.control.proofs.stations.set_token.Goals as goal

pub returns : goal.returns
returns c = search (rules, token_set)
