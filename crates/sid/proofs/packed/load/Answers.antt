-- sid::packed::load meets its contract: its loop fills the row. Assumes nothing.
use borrow.Author.Rules.{rules}
use Rattle.sid.proofs.Reading.{load_low, load_high, load_one, load_place, load_next, loading_none, loading_more, loading_done}
use Rattle.sid.proofs.packed.load.Goals as goal

pub four-requires : goal.four-requires
four-requires c = search (rules, load_low)

pub overflow_add-at : goal.overflow_add-at
overflow_add-at c = search (rules, load_place)

pub four-requires-2 : goal.four-requires-2
four-requires-2 c = search (rules, load_high)

pub overflow_add-n : goal.overflow_add-n
overflow_add-n c = search (rules, load_next)

pub bounds-s-at : goal.bounds-s-at
bounds-s-at c = search (rules, load_one)

pub loop-i-init : goal.loop-i-init
loop-i-init c = search (rules, loading_none)

pub loop-i-preserved : goal.loop-i-preserved
loop-i-preserved c = search (rules, loading_more)

pub returns : goal.returns
returns c = search (rules, loading_done)
