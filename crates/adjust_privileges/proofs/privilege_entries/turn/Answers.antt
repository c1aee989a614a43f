-- `turn` meets its contract: one entry is judged, and made. Assumes nothing.
use borrow.Author.Rules.{rules}
use Rattle.body.proofs.Passes.{goes_on, stops}
use Rattle.adjust_privileges.proofs.PrivilegeEntries.{small}
use Rattle.adjust_privileges.proofs.privilege_entries.turn.Goals as goal

pub adjust-requires : goal.adjust-requires
adjust-requires c = search (rules, small)

pub returns : goal.returns
returns c = goes_on _ _ _ _ _ _ _ _ c.may_adjust.ensures c.has.ensures c.if-may_adjust-has.false (search (rules, small)) _ c.adjust.ensures _ _ c.bit.ensures c.with.ensures

pub returns-then-may_adjust-has : goal.returns-then-may_adjust-has
returns-then-may_adjust-has c = stops _ _ _ _ _ _ _ _ c.may_adjust.ensures c.has.ensures c.if-may_adjust-has.true
