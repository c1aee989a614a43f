-- The words that are stored are the pair. Assumes nothing.
use borrow.Author.Rules.{rules}
use Rattle.control.proofs.PairRows.{pair_set}
use Rattle.control.proofs.pairs.set_pair.Goals as goal

pub returns : goal.returns
returns c = search (rules, pair_set)
