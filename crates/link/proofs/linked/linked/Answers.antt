-- A law for each end. Assumes nothing.
use native.Mathlib.Omega.{arith}
use mathlib.Core.Path.{◌≡◌}
use Rattle.std.specs.Prelude.{None, Some, Err}
use Rattle.std.proofs.lemmas.Grind.{common_steps}
use Rattle.answer.specs.declared.refusal.Refusal.TheVariants as refusal
use Rattle.link.proofs.LinkedEnding.{linked_not_found, in_no_pair, partner_lost, gives_partner, gives_clone}
use Rattle.link.proofs.linked.linked.Goals as goal

pub returns-in_err-token-clause-carried : goal.returns-in_err-token-clause-carried
returns-in_err-token-clause-carried c =
    let e : c.from_residual.result ≡ Err c.in_err-token.field-0.0 = grind (arith, common_steps) in
    rw e (linked_not_found c.in_err-token.ensures)

pub returns-in_err-partner-clause-carried : goal.returns-in_err-partner-clause-carried
returns-in_err-partner-clause-carried c =
    let e : c.from_residual-in_err-partner.result ≡ Err refusal.NotLinked = grind (arith, common_steps) in
    let none : c.partner_of.result ≡ None = grind (arith, common_steps) in
    rw e (in_no_pair c.in_ok-token.ensures (rw none at c.partner_of.ensures))

pub returns-in_err-slot-clause-carried : goal.returns-in_err-slot-clause-carried
returns-in_err-slot-clause-carried c =
    let e : c.from_residual-in_err-slot.result ≡ Err refusal.NotLinked = grind (arith, common_steps) in
    let some : c.partner_of.result ≡ Some c.in_ok-partner.partner = grind (arith, common_steps) in
    let none : c.slot_of.result ≡ None = grind (arith, common_steps) in
    let at = rw none at c.slot_of.ensures in
    rw e (partner_lost c.in_ok-token.ensures (rw some at c.partner_of.ensures) at.0)

pub returns-then-held-clause-carried : goal.returns-then-held-clause-carried
returns-then-held-clause-carried c =
    let some : c.partner_of.result ≡ Some c.in_ok-partner.partner = grind (arith, common_steps) in
    gives_partner c.in_ok-token.ensures (rw some at c.partner_of.ensures) c.held.ensures c.if-held.true c.open_partner.ensures.opened

pub returns-else-held-clause-carried : goal.returns-else-held-clause-carried
returns-else-held-clause-carried c =
    let some : c.partner_of.result ≡ Some c.in_ok-partner.partner = grind (arith, common_steps) in
    let there : c.slot_of.result ≡ Some c.in_ok-slot.slot = grind (arith, common_steps) in
    let at = rw there at c.slot_of.ensures in
    gives_clone c.in_ok-token.ensures (rw some at c.partner_of.ensures) c.held.ensures at.0 c.if-held.false c.issue_clone.ensures.issued
