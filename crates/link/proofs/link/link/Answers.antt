-- A law for each end. Assumes nothing.
use native.Mathlib.Omega.{arith}
use mathlib.Core.Path.{◌≡◌}
use Rattle.std.specs.Prelude.{None, Some, Err}
use Rattle.std.proofs.lemmas.Grind.{common_steps}
use Rattle.answer.specs.declared.refusal.Refusal.TheVariants as refusal
use Rattle.link.proofs.LinkEnding.{link_not_found, link_not_held, link_bad, link_full, links}
use Rattle.link.proofs.link.link.Goals as goal

pub returns-in_err-pair-clause-carried : goal.returns-in_err-pair-clause-carried
returns-in_err-pair-clause-carried c =
    let e : c.from_residual.result ≡ Err c.in_err-pair.field-0.0 = grind (arith, common_steps) in
    rw e (link_not_found c.in_err-pair.ensures)

pub returns-then-not-held-clause-carried : goal.returns-then-not-held-clause-carried
returns-then-not-held-clause-carried c = link_not_held c.in_ok-pair.ensures c.held.ensures c.if-not-held.true

pub returns-then-not-linkable-clause-carried : goal.returns-then-not-linkable-clause-carried
returns-then-not-linkable-clause-carried c = link_bad c.in_ok-pair.ensures c.held.ensures c.if-not-held.false c.linkable.ensures c.if-not-linkable.true

pub returns-in_err-place-clause-carried : goal.returns-in_err-place-clause-carried
returns-in_err-place-clause-carried c =
    let e : c.from_residual-in_err-place.result ≡ Err refusal.TableFull = grind (arith, common_steps) in
    let none : c.place_for.result ≡ None = grind (arith, common_steps) in
    rw e (link_full c.in_ok-pair.ensures c.held.ensures c.if-not-held.false c.linkable.ensures c.if-not-linkable.false c.place_for.ensures none)

pub returns-clause-carried : goal.returns-clause-carried
returns-clause-carried c =
    let some : c.place_for.result ≡ Some c.in_ok-place.place = grind (arith, common_steps) in
    rw c.ends.ensures (links c.in_ok-pair.ensures c.held.ensures c.if-not-held.false c.linkable.ensures c.if-not-linkable.false c.place_for.ensures some c.apply.ensures.applied)
