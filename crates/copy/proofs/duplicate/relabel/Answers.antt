-- Five words. Assumes nothing.
use borrow.Author.Rules.{rules}
use Rattle.copy.proofs.DuplicateEnding.{relabelled}
use Rattle.copy.proofs.duplicate.relabel.Goals as goal

pub returns : goal.returns
returns c = search (rules, relabelled)
