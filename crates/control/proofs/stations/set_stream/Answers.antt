-- The words that are stored are the count and the mark. Assumes nothing.
use borrow.Author.Rules.{rules}
use Rattle.control.proofs.StationRows.{stream_set}
use Rattle.control.proofs.stations.set_stream.Goals as goal

pub returns : goal.returns
returns c = search (rules, stream_set)
