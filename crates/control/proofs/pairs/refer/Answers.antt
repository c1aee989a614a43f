-- Some pair has the token where its place is one of the places. Assumes nothing.
use borrow.Author.Rules.{rules}
use Rattle.control.proofs.Referring.{pairs_refer}
use Rattle.control.proofs.pairs.refer.Goals as goal

pub returns : goal.returns
returns c = search (rules, pairs_refer)
