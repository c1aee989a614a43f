-- Requests 16 and 17: link, get linked. Assumes nothing.
use Rattle.std.specs.Prelude.{ℕ, Bool, not, ◌&&◌, [], eqb, if◌then◌else◌}
use Rattle.rules.specs.Number.{encode}
use Rattle.rules.specs.Mask as Mask
use Rattle.rules.specs.Mask.{permits, all_rights}
use Rattle.rules.specs.Refusal.{not_aLive_handle, right_missing, privilege_not_held, bad_field, not_linked, table_full}
use Rattle.rules.specs.Privileges.{tcb}
use Rattle.rules.specs.Token.{Token, primary, impersonation, identification, full, limited, with_elevation}
use Rattle.rules.specs.Table.{is_live, or_else}
use Rattle.rules.specs.Handle.{Handle}
use Rattle.rules.specs.Pair.{Pair, no_pair, partner}
use Rattle.rules.specs.State.{State, token_of, held, used, change_token, find_handle, handle_of, can_add_handle, add_handle, pair_of, can_link, set_pair, released}
use Rattle.rules.specs.Duplicate.{copied}
use Rattle.rules.specs.Decision.{Decision, need◌else◌then◌, success, with_handle, can_issue, issued}

-- ---- 16

-- both handles are this station's live ones, and both masks have the right
unfoldable pub with_both : State → ℕ → ℕ → ℕ → ℕ → (Handle → Handle → Decision) → Decision
with_both σ s n m right go =
    need is_live (find_handle σ s n) && is_live (find_handle σ s m) else not_aLive_handle then
    need permits (handle_of σ s n).mask right && permits (handle_of σ s m).mask right else right_missing then
    go (handle_of σ s n) (handle_of σ s m)

-- a primary token of the session
unfoldable pub is_of_session : ℕ → Token → Bool
is_of_session session t = eqb t.identity.type primary && eqb t.identity.session session

-- two tokens of the session and of one user; a Limited one stays Limited, and a Full one Full
unfoldable pub linkable : ℕ → Token → Token → Bool
linkable session elevated filtered =
    is_of_session session elevated
    && is_of_session session filtered
    && eqb elevated.identity.user filtered.identity.user
    && not (eqb elevated.number filtered.number)
    && not (eqb elevated.elevation limited)
    && not (eqb filtered.elevation full)

-- they become Full and Limited, and the session's pair
unfoldable pub linked : Pair → State → State
linked p σ =
    set_pair p (change_token p.filtered (with_elevation limited) (change_token p.elevated (with_elevation full) σ))

unfoldable pub link : State → ℕ → ℕ → ℕ → ℕ → Decision
link σ s n m session =
    with_both σ s n m Mask.duplicate λ e f.
    need held σ s tcb else privilege_not_held then
    need linkable session (token_of σ e.token) (token_of σ f.token) else bad_field then
    need can_link σ session else table_full then
    success (released (linked (record { session = session; elevated = e.token; filtered = f.token }) (used tcb s σ))) []

-- ---- 17

-- the token that token n is linked with
unfoldable pub partner_of : State → ℕ → ℕ
partner_of σ n = partner n (or_else no_pair (pair_of σ n))

-- rule 9's impersonation copy at Identification, but for the elevation, which is kept
unfoldable pub clone : ℕ → Token → Token
clone n t = with_elevation t.elevation (copied n impersonation identification t)

-- the holder of Tcb gets a handle on the partner itself, others one on a clone that they may only query
unfoldable pub get_linked : State → ℕ → ℕ → Decision
get_linked σ s n =
    with_handle σ s n Mask.query λ h t.
    need is_live (pair_of σ h.token) else not_linked then
    if held σ s tcb then
    (need can_add_handle σ else table_full then
    success (add_handle s (partner_of σ h.token) all_rights (used tcb s σ)) (encode σ.handles.next))
    else
    (need can_issue σ else table_full then
    issued s Mask.query (clone σ.tokens.next (token_of σ (partner_of σ h.token))) σ)
