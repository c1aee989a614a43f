-- By the test of the sizes. Assumes nothing.
use borrow.Author.Rules.{rules}
use Rattle.valid.proofs.Sizes.{right_lent}
use Rattle.start.proofs.Starting.{start_refused, starts, fits_count}
use Rattle.start.proofs.start.Goals as goal

pub write-requires : goal.write-requires
write-requires c = search (rules, right_lent)

pub returns-then-is_sized-clause-started : goal.returns-then-is_sized-clause-started
returns-then-is_sized-clause-started c = starts _ _ _ _ _ _ c.is_sized.ensures c.if-is_sized.true c.write.ensures _

pub returns-then-is_sized-clause-inside : goal.returns-then-is_sized-clause-inside
returns-then-is_sized-clause-inside c = fits_count _ _ _ _ _ _ c.is_sized.ensures c.if-is_sized.true

pub returns-else-is_sized-clause-started : goal.returns-else-is_sized-clause-started
returns-else-is_sized-clause-started c = start_refused _ _ _ _ _ _ c.is_sized.ensures c.if-is_sized.false
