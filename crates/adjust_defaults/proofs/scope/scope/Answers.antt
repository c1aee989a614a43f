-- A law for each end. Assumes nothing.
use borrow.Author.Rules.{rules}
use Rattle.std.proofs.lemmas.Result.{err_from_is_err_and}
use Rattle.adjust_defaults.proofs.ScopeEnding.{scope_handle_refused, scope_not_held, scope_changes}
use Rattle.adjust_defaults.proofs.scope.scope.Goals as goal

pub returns-in_err-handle-clause-carried : goal.returns-in_err-handle-clause-carried
returns-in_err-handle-clause-carried c = let p = err_from_is_err_and c.from_residual.result c.from_residual.ensures.1 in rw (p.1, p.2) (scope_handle_refused _ c.in_err-handle.ensures)

pub returns-then-not-held-clause-carried : goal.returns-then-not-held-clause-carried
returns-then-not-held-clause-carried c = scope_not_held _ c.in_ok-handle.ensures c.held.ensures (search rules)

pub returns-clause-carried : goal.returns-clause-carried
returns-clause-carried c =
    let same = c.apply.ensures.alone in
    rw (c.ends.ensures, same.1, same.2) (scope_changes _ c.in_ok-handle.ensures c.held.ensures (search rules) c.apply.ensures.applied)
