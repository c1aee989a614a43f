-- sid::find::find meets its contract: at its rank or nowhere. Assumes nothing.
use borrow.Author.Rules.{rules}
use Rattle.sid.proofs.Finding.{found_none, found_after, found_it, place_inside}
use Rattle.sid.proofs.find.find.Goals as goal

pub returns-then-places-k : goal.returns-then-places-k
returns-then-places-k c = search (rules, found_none)

pub row-requires : goal.row-requires
row-requires c = (search rules, search (rules, place_inside))

pub returns-then-less : goal.returns-then-less
returns-then-less c = search (rules, found_after)

pub returns : goal.returns
returns c = search (rules, found_it)
