-- sid::valid::passes meets its contract: by its count and its places, then by its parts. Assumes nothing.
use borrow.Author.Rules.{rules}
use Rattle.sid.proofs.Parts.{part_few, part_many, part_places, part_tests, size_rows, some_places, places_below}
use Rattle.sid.proofs.valid.passes.Goals as goal

pub returns-then-count-lt2 : goal.returns-then-count-lt2
returns-then-count-lt2 c = search (rules, part_few)

pub returns-then-count : goal.returns-then-count
returns-then-count c = search (rules, part_many)

pub returns-then-not-all_below : goal.returns-then-not-all_below
returns-then-not-all_below c = search (rules, part_places)

pub rises-requires : goal.rises-requires
rises-requires c = (search (rules, size_rows), search (rules, some_places), search (rules, places_below))

pub returns : goal.returns
returns c = search (rules, part_tests)
