-- Request 11: install. Assumes nothing.
use Rattle.std.specs.Prelude.{ℕ, Bool, ◌&&◌, ◌||◌, [], eqb, if◌then◌else◌}
use Rattle.rules.specs.Mask.{assign_primary}
use Rattle.rules.specs.Refusal.{privilege_not_held, bad_field, install_mismatch}
use Rattle.rules.specs.Privileges.{assign_primary_token, tcb}
use Rattle.rules.specs.Token.{Token, primary}
use Rattle.rules.specs.State.{State, caller, held, used, set_token, released}
use Rattle.rules.specs.Decision.{Decision, need◌else◌then◌, success, with_handle}

-- one user and one session
unfoldable pub matches : Token → Token → Bool
matches a b = eqb a.identity.user b.identity.user && eqb a.identity.session b.identity.session

-- the used bits fall on the token that was the station's primary one before; Tcb counts only where the tokens don't match
unfoldable pub marked : ℕ → Token → State → State
marked s t σ =
    if matches t (caller σ s) then used assign_primary_token s σ else used tcb s (used assign_primary_token s σ)

unfoldable pub install : State → ℕ → ℕ → Decision
install σ s n =
    with_handle σ s n assign_primary λ h t.
    need held σ s assign_primary_token else privilege_not_held then
    need eqb t.identity.type primary else bad_field then
    need matches t (caller σ s) || held σ s tcb else install_mismatch then
    success (released (set_token s h.token (marked s t σ))) []
