-- One by one. Assumes nothing.
use Rattle.std.proofs.Common.{arith}
use borrow.Author.Rules.{rules}
use Rattle.body.proofs.Sids.{sid_packed, sid_inside}
use Rattle.restrict_packed.proofs.Gathering.{rowed, gather_none, gather_begin, gather_end, gather_lost, gather_next}
use Rattle.restrict_packed.proofs.gathered.gather.Goals as goal

pub returns-then-not-table_valid : goal.returns-then-not-table_valid
returns-then-not-table_valid c = search (rules, gather_none)

pub loop-init : goal.loop-init
loop-init c = search (rules, gather_begin)

pub returns-in_err-size : goal.returns-in_err-size
returns-in_err-size c = gather_lost _ _ _ c.loop.invariant c.loop-test.true c.in_err-size.ensures

pub row_at-row-requires : goal.row_at-row-requires
row_at-row-requires c = sid_packed c.args.s.now c.loop.from _ c.in_ok-size.ensures

pub enter-requires : goal.enter-requires
enter-requires c = search (rules, rowed)

pub overflow_add-from : goal.overflow_add-from
overflow_add-from c = omega (arith, sid_inside c.args.s.now c.loop.from c.in_ok-size.size c.in_ok-size.ensures)

pub loop-preserved : goal.loop-preserved
loop-preserved c = gather_next _ _ _ c.loop.invariant c.loop-test.true _ c.in_ok-size.ensures c.row_at-row.ensures c.enter.ensures c.note-list.ensures

pub returns : goal.returns
returns c = search (rules, gather_end)
