-- By the handle, in the row of its token. Assumes nothing.
use Rattle.std.proofs.lemmas.Result.{err_from_is_err_and}
use Rattle.adjust_privileges.proofs.PrivilegesEnding.{no_handle_lem, row_adjusted, row_refused}
use Rattle.adjust_privileges.proofs.adjust_privileges.Goals as goal

pub returns-in_err-x-clause-carried : goal.returns-in_err-x-clause-carried
returns-in_err-x-clause-carried c = let p = err_from_is_err_and c.from_residual.result c.from_residual.ensures.1 in rw (p.1, p.2) (no_handle_lem _ _ _ c.in_err-x.ensures)

pub returns-in_err-answer-clause-carried : goal.returns-in_err-answer-clause-carried
returns-in_err-answer-clause-carried c =
    let p = err_from_is_err_and c.from_residual-in_err-answer.result c.from_residual-in_err-answer.ensures.1 in
    rw (p.1, p.2) (row_refused _ _ _ c.in_ok-x.ensures c.in_err-answer.ensures)

pub returns-clause-carried : goal.returns-clause-carried
returns-clause-carried c = rw c.ends.ensures (row_adjusted _ _ _ c.in_ok-x.ensures c.in_ok-answer.ensures)
