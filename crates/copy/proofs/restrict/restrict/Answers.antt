-- By the handle and the tests. Assumes nothing.
use Rattle.std.proofs.Common.{◌≡◌, Err, arith}
use Rattle.std.proofs.lemmas.Grind.{common_steps}
use Rattle.rules.specs.Request.{sid_number}
use Rattle.copy.proofs.RestrictEnding.{restrict_unknown, restrict_refused, restricts, numbers_taken, none_entered}
use Rattle.copy.proofs.restrict.restrict.Goals as goal

pub returns-in_err-from-clause-carried : goal.returns-in_err-from-clause-carried
returns-in_err-from-clause-carried c =
    let e : c.from_residual.result ≡ Err c.in_err-from.field-0.0 = grind (arith, common_steps) in
    rw e (restrict_unknown sid_number _ _ _ _ _ _ _ _ _ c.in_err-from.ensures)

pub returns-in_err-check-clause-carried : goal.returns-in_err-check-clause-carried
returns-in_err-check-clause-carried c =
    let e : c.from_residual-in_err-check.result ≡ Err c.in_err-check.field-0.0 = grind (arith, common_steps) in
    let from = c.in_ok-from.ensures in
    rw e (restrict_refused sid_number _ _ _ _ _ _ _ _ _ from c.source_at-source.ensures
    (numbers_taken _ from.there.slot from.there.inside c.source_at-source.ensures c.from-sid_count.ensures c.list_of-list.ensures c.by_number-a.ensures) c.in_err-check.ensures)

pub returns-clause-carried : goal.returns-clause-carried
returns-clause-carried c =
    let from = c.in_ok-from.ensures in
    restricts sid_number _ _ _ _ _ _ _ _ _ from c.source_at-source.ensures
    (numbers_taken _ from.there.slot from.there.inside c.source_at-source.ensures c.from-sid_count.ensures c.list_of-list.ensures c.by_number-a.ensures) c.in_ok-check.ensures c.issue_restricted.ensures.issued
    (λ given later e σ v k fits. none_entered _ _ e σ _)
