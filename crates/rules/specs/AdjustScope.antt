-- Request 7: scope. Assumes nothing.
use Rattle.std.specs.Prelude.{ℕ, []}
use Rattle.rules.specs.Mask.{adjust_scope}
use Rattle.rules.specs.Refusal.{privilege_not_held}
use Rattle.rules.specs.Privileges.{tcb}
use Rattle.rules.specs.Token.{Token, with_scope, next_modified}
use Rattle.rules.specs.State.{State, held, used, change_token}
use Rattle.rules.specs.Decision.{Decision, need◌else◌then◌, success, with_handle}

unfoldable pub scoped_token : ℕ → Token → Token
scoped_token v t = next_modified (with_scope v t)

unfoldable pub scope : State → ℕ → ℕ → ℕ → Decision
scope σ s n v =
    with_handle σ s n adjust_scope λ h t.
    need held σ s tcb else privilege_not_held then
    success (change_token h.token (scoped_token v) (used tcb s σ)) []
