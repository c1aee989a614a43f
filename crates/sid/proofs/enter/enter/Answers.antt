-- sid::enter::enter meets its contract: an old SID is found, a new one is added if it fits. Assumes nothing.
use borrow.Author.Rules.{rules}
use Rattle.sid.proofs.Entered.{lent_sought, entered_old, entered_full, entered_here, end_small, end_in, rank_in}
use Rattle.sid.proofs.enter.enter.Goals as goal

pub overflow_add-end : goal.overflow_add-end
overflow_add-end c = search (rules, end_small)

pub slice_bounds-find-end : goal.slice_bounds-find-end
slice_bounds-find-end c = search (rules, end_in)

pub find-requires : goal.find-requires
find-requires c = search (rules, lent_sought)

pub returns-in-Some : goal.returns-in-Some
returns-in-Some c = search (rules, entered_old, c.in-Some.ensures)

pub returns-then-n-ge-MAX_SIDS : goal.returns-then-n-ge-MAX_SIDS
returns-then-n-ge-MAX_SIDS c = search (rules, entered_full, c.in_default.ensures)

pub rank-k-requires : goal.rank-k-requires
rank-k-requires c = search (rules, lent_sought)

pub add-requires : goal.add-requires
add-requires c = (search (rules, rank_in), search rules)

pub returns : goal.returns
returns c = search (rules, entered_here, c.in_default.ensures)
