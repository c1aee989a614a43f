-- By the handle, the test and the room. Assumes nothing.
use Rattle.std.proofs.Common.{◌≡◌, Err, ap, not, arith}
use Rattle.std.proofs.lemmas.Grind.{common_steps}
use Rattle.copy.proofs.DuplicateEnding.{duplicate_unknown, duplicate_bad, duplicate_full, duplicates}
use Rattle.copy.proofs.duplicate.duplicate.Goals as goal

pub returns-in_err-from-clause-carried : goal.returns-in_err-from-clause-carried
returns-in_err-from-clause-carried c =
    let e : c.from_residual.result ≡ Err c.in_err-from.field-0.0 = grind (arith, common_steps) in
    rw e (duplicate_unknown _ _ _ c.in_err-from.ensures)

pub returns-then-not-valid_duplicate-clause-carried : goal.returns-then-not-valid_duplicate-clause-carried
returns-then-not-valid_duplicate-clause-carried c =
    duplicate_bad _ _ _ c.in_ok-from.ensures _ c.identity_at-source.ensures c.valid_duplicate.ensures (ap not c.if-not-valid_duplicate.true)

pub returns-then-not-can_issue-clause-carried : goal.returns-then-not-can_issue-clause-carried
returns-then-not-can_issue-clause-carried c =
    duplicate_full _ _ _ c.in_ok-from.ensures _ c.identity_at-source.ensures c.valid_duplicate.ensures (ap not c.if-not-valid_duplicate.false) c.can_issue.ensures (ap not c.if-not-can_issue.true)

pub returns-clause-carried : goal.returns-clause-carried
returns-clause-carried c =
    duplicates _ _ _ c.in_ok-from.ensures _ c.identity_at-source.ensures c.valid_duplicate.ensures (ap not c.if-not-valid_duplicate.false) c.can_issue.ensures (ap not c.if-not-can_issue.false)
    c.issue_duplicate.ensures.issued
