-- valid::stations::station_valid meets its contract: as its callees say. Assumes nothing.
use borrow.Author.Rules.{rules}
use Rattle.valid.proofs.StationRow.{at_station}
use Rattle.valid.proofs.stations.station_valid.Goals as goal

pub returns : goal.returns
returns c = search (rules, at_station)
