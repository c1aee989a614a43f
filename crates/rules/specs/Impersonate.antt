-- Requests 12 and 13: impersonate, revert. The server is the station's primary token, the client the handle's. Assumes nothing.
use Rattle.std.specs.Prelude.{ℕ, min, Bool, not, ◌&&◌, ◌||◌, [], ◌∷◌, eqb, leb, if◌then◌else◌}
use Rattle.rules.specs.Basic.{implies, both_or_neither}
use Rattle.rules.specs.Number.{encode, encode_all}
use Rattle.rules.specs.Mask as Mask
use Rattle.rules.specs.Refusal.{bad_field, restricted_server}
use Rattle.rules.specs.Privileges as Privileges
use Rattle.rules.specs.Token.{Token, impersonation, identification, is_restricted}
use Rattle.rules.specs.Station.{no_client}
use Rattle.rules.specs.State.{State, caller, held, used, client_at, set_client, released}
use Rattle.rules.specs.Decision.{Decision, need◌else◌then◌, success, with_handle}

-- one user, and both or neither are restricted
unfoldable pub alike : Token → Token → Bool
alike server client =
    eqb server.identity.user client.identity.user && both_or_neither (is_restricted server) (is_restricted client)

-- gate one
unfoldable pub passes : State → ℕ → Token → Bool
passes σ s client = alike (caller σ s) client || held σ s Privileges.impersonate

-- without it a restricted server may act for a restricted client only
unfoldable pub may_act : State → ℕ → Token → Bool
may_act σ s client = passes σ s client || implies (is_restricted (caller σ s)) (is_restricted client)

-- the level in force: the client's own, but at most Identification where the gate does not pass, and for a client of higher integrity
unfoldable pub in_force : State → ℕ → Token → ℕ
in_force σ s client =
    if passes σ s client && leb client.identity.integrity (caller σ s).identity.integrity then client.identity.level else
    min client.identity.level identification

-- Impersonate is used only where the gate needed it
unfoldable pub marked : ℕ → Token → State → State
marked s client σ =
    if not (alike (caller σ s) client) && held σ s Privileges.impersonate then used Privileges.impersonate s σ else σ

-- the client takes the place of an earlier one
unfoldable pub impersonate : State → ℕ → ℕ → Decision
impersonate σ s n =
    with_handle σ s n Mask.impersonate λ h t.
    need eqb t.identity.type impersonation else bad_field then
    need may_act σ s t else restricted_server then
    success (released (set_client s (record { token = h.token; level = in_force σ s t }) (marked s t σ))) (encode (in_force σ s t))

-- the number and the level given up; both are 0 where there was no client
unfoldable pub revert : State → ℕ → Decision
revert σ s = success (released (set_client s no_client σ)) (encode_all ((client_at σ s).token ∷ (client_at σ s).level ∷ []))
