-- The word of the row. Assumes nothing.
use borrow.Author.Rules.{rules}
use Rattle.control.proofs.StationRows.{word_given}
use Rattle.control.proofs.stations.word.Goals as goal

pub returns : goal.returns
returns c = search (rules, word_given)
