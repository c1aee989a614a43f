-- The table's size, and the loop. Assumes nothing.
use borrow.Author.Rules.{rules}
use Rattle.copy.proofs.AskedNumbers.{asks_numbers}
use Rattle.copy.proofs.asked.by_number.Goals as goal

pub returns : goal.returns
returns c = search (rules, asks_numbers)
