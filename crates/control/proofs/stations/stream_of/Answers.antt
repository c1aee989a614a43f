-- The words are the count and the mark. Assumes nothing.
use borrow.Author.Rules.{rules}
use Rattle.control.proofs.StationRows.{stream_given}
use Rattle.control.proofs.stations.stream_of.Goals as goal

pub returns : goal.returns
returns c = search (rules, stream_given)
