-- sid::row::is_row meets its contract: by its header and what is behind its sub-authorities. Assumes nothing.
use borrow.Author.Rules.{rules}
use Rattle.sid.proofs.Loops.{revision_bad, count_bad, row_test_lem}
use Rattle.sid.proofs.row.is_row.Goals as goal

pub returns-then-header-ne1 : goal.returns-then-header-ne1
returns-then-header-ne1 c = search (rules, revision_bad)

pub returns-then-n-gt-MAX_SUBS : goal.returns-then-n-gt-MAX_SUBS
returns-then-n-gt-MAX_SUBS c = search (rules, count_bad)

pub returns : goal.returns
returns c = search (rules, row_test_lem)
