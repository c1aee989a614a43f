-- valid::stations::is_part meets its contract: by what the bytes come to. Assumes nothing.
use borrow.Author.Rules.{rules}
use Rattle.valid.proofs.StationRow.{is_part_lem, is_other}
use Rattle.valid.proofs.stations.is_part.Goals as goal

pub returns-in-Part : goal.returns-in-Part
returns-in-Part c = search (rules, is_part_lem)

pub returns-in_default : goal.returns-in_default
returns-in_default c = search (rules, is_other)
