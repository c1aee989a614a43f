-- By the handle and the tests; the SIDs enter last. Assumes nothing.
use Rattle.std.proofs.Common.{◌≡◌, Err, arith}
use Rattle.std.proofs.lemmas.Grind.{common_steps}
use Rattle.rules.specs.Request.{packed_sid}
use Rattle.copy.proofs.RestrictEnding.{restrict_unknown, restrict_refused, restricts}
use Rattle.restrict_packed.proofs.Taking.{packed_taken, packed_entered}
use Rattle.restrict_packed.proofs.restrict_packed.Goals as goal

pub returns-in_err-from-clause-carried : goal.returns-in_err-from-clause-carried
returns-in_err-from-clause-carried c =
    let e : c.from_residual.result ≡ Err c.in_err-from.field-0.0 = grind (arith, common_steps) in
    rw e (restrict_unknown packed_sid _ _ _ _ _ _ _ _ _ c.in_err-from.ensures)

pub returns-in_err-check-clause-carried : goal.returns-in_err-check-clause-carried
returns-in_err-check-clause-carried c =
    let e : c.from_residual-in_err-check.result ≡ Err c.in_err-check.field-0.0 = grind (arith, common_steps) in
    let from = c.in_ok-from.ensures in
    rw e (restrict_refused packed_sid _ _ _ _ _ _ _ _ _ from c.source_at-source.ensures
    (packed_taken _ from.there.slot from.there.inside c.source_at-source.ensures c.sids-table.ensures c.take-a.ensures) c.in_err-check.ensures)

pub returns-clause-carried : goal.returns-clause-carried
returns-clause-carried c =
    let from = c.in_ok-from.ensures in
    restricts packed_sid _ _ _ _ _ _ _ _ _ from c.source_at-source.ensures
    (packed_taken _ from.there.slot from.there.inside c.source_at-source.ensures c.sids-table.ensures c.take-a.ensures) c.in_ok-check.ensures c.issue_restricted-end.ensures.issued
    (λ given later e σ v k fits. packed_entered _ from.there.slot from.there.inside c.source_at-source.ensures c.sids-table.ensures c.take-a.ensures given later e σ v k c.set.ensures fits)
