-- references::pairs::place_valid meets its contract: by whether the place is free. Assumes nothing.
use borrow.Author.Rules.{rules}
use Rattle.references.proofs.PairRows.{at_free, at_pair}
use Rattle.references.proofs.pairs.place_valid.Goals as goal

pub returns-then-row-eq0 : goal.returns-then-row-eq0
returns-then-row-eq0 c = search (rules, at_free)

pub returns : goal.returns
returns c = search (rules, at_pair)
