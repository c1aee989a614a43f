-- The word is the primary token. Assumes nothing.
use borrow.Author.Rules.{rules}
use Rattle.control.proofs.StationRows.{caller_number_lem}
use Rattle.control.proofs.stations.caller_number.Goals as goal

pub returns : goal.returns
returns c = search (rules, caller_number_lem)
