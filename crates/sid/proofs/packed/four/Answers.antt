-- sid::packed::four meets its contract. Assumes nothing.
use borrow.Author.Rules.{rules}
use Rattle.sid.proofs.Reading.{four_value}
use Rattle.sid.proofs.packed.four.Goals as goal

pub returns : goal.returns
returns c = search (rules, four_value)
