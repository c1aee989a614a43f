-- A reference is a station's or a pair's. Assumes nothing.
use borrow.Author.Rules.{rules}
use Rattle.control.proofs.Referring.{refer}
use Rattle.control.proofs.references.refer.Goals as goal

pub returns : goal.returns
returns c = search (rules, refer)
