-- sid::number::is_number meets its contract, for every table of so many SIDs. Assumes nothing.
use borrow.Author.Rules.{rules}
use Rattle.sid.proofs.Numbers.{number_tested}
use Rattle.sid.proofs.number.is_number.Goals as goal

pub returns : goal.returns
returns c = search (rules, number_tested)
