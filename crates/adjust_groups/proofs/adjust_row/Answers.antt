-- A refusal is passed on. Assumes nothing.
use mathlib.Core.Path.{refl}
use Rattle.std.proofs.lemmas.Result.{err_from_is_err_and}
use Rattle.adjust_groups.proofs.GroupsEnding.{row_refused}
use Rattle.adjust_groups.proofs.adjust_row.Goals as goal

pub returns-in_err-previous : goal.returns-in_err-previous
returns-in_err-previous c =
    let p = err_from_is_err_and c.from_residual.result c.from_residual.ensures.1 in
    rw (p.1, p.2) (row_refused c.args.words.now c.identity_in-identity.ensures c.count_in-end.ensures c.in_err-previous.ensures refl)
