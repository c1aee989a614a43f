-- sid::packed::size_at meets its contract: past the end there is none. Assumes nothing.
use borrow.Author.Rules.{rules}
use Rattle.sid.proofs.Reading.{size_past}
use Rattle.sid.proofs.packed.size_at.Goals as goal

pub returns-in_err-get : goal.returns-in_err-get
returns-in_err-get c = search (rules, size_past)
