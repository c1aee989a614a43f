-- By the handle, in the rows of its token. Assumes nothing.
use Rattle.std.proofs.lemmas.Result.{err_from_is_err_and}
use Rattle.adjust_defaults.proofs.DefaultsEnding.{no_handle_lem, fields_refused, adjusts}
use Rattle.adjust_defaults.proofs.defaults.adjust_defaults.Goals as goal

pub returns-in_err-slot-clause-carried : goal.returns-in_err-slot-clause-carried
returns-in_err-slot-clause-carried c = let p = err_from_is_err_and c.from_residual.result c.from_residual.ensures.1 in rw (p.1, p.2) (no_handle_lem _ _ _ _ c.in_err-slot.ensures)

pub returns-in_err-adjust-clause-carried : goal.returns-in_err-adjust-clause-carried
returns-in_err-adjust-clause-carried c =
    let p = err_from_is_err_and c.from_residual-in_err-adjust.result c.from_residual-in_err-adjust.ensures.1 in
    rw (p.1, p.2) (fields_refused _ _ _ _ c.in_ok-slot.ensures c.in_err-adjust.ensures)

pub returns-clause-carried : goal.returns-clause-carried
returns-clause-carried c = rw c.ends.ensures (adjusts _ _ _ _ c.in_ok-slot.ensures c.in_ok-adjust.ensures)
