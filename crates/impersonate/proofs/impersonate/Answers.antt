-- By the handle, the checks and the effect. Assumes nothing.
use native.Mathlib.Omega.{arith}
use mathlib.Core.Path.{◌≡◌}
use Rattle.std.specs.Prelude.{Err}
use Rattle.std.proofs.lemmas.Grind.{common_steps}
use Rattle.impersonate.proofs.ImpersonateLaws.{no_handle_lem, not_allowed, impersonated}
use Rattle.impersonate.proofs.impersonate.Goals as goal

pub returns-in_err-token-clause-carried : goal.returns-in_err-token-clause-carried
returns-in_err-token-clause-carried c =
    let e : c.from_residual.result ≡ Err c.in_err-token.field-0.0 = grind (arith, common_steps) in
    rw e (no_handle_lem c.in_err-token.ensures)

pub returns-in_err-check-clause-carried : goal.returns-in_err-check-clause-carried
returns-in_err-check-clause-carried c =
    let e : c.from_residual-in_err-check.result ≡ Err c.in_err-check.field-0.0 = grind (arith, common_steps) in
    rw e (not_allowed c.in_ok-token.ensures c.identity_of-client.ensures c.gate_of-g.ensures c.in_err-check.ensures)

pub returns-clause-carried : goal.returns-clause-carried
returns-clause-carried c =
    rw c.ends.ensures (impersonated c.in_ok-token.ensures c.identity_of-client.ensures c.gate_of-g.ensures c.in_ok-check.ensures c.level_in_force-level.ensures c.act.ensures.acted)
