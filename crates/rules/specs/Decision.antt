-- How a request is decided: its checks, the refusal of lowest rank first, then its effect. Assumes nothing.
use Rattle.std.specs.Prelude.{ℕ, Bool, true, false, ◌&&◌, List, ◌∷◌}
use Rattle.rules.specs.Number.{encode}
use Rattle.rules.specs.Mask.{permits}
use Rattle.rules.specs.Refusal.{Refusal, not_aLive_handle, right_missing}
use Rattle.rules.specs.Token.{Token}
use Rattle.rules.specs.Table.{is_live}
use Rattle.rules.specs.Handle.{Handle}
use Rattle.rules.specs.State.{State, token_of, find_handle, handle_of, can_add_handle, can_add_token, add_handle, add_token}

infixr 4 need◌else◌then◌
pub data Decision : Type 0 where
  need◌else◌then◌ : Bool → Refusal → Decision → Decision
  -- the state after it, and the answer's bytes after the status
  success : State → List ℕ → Decision

pub record Served : Type 0 where
  pub state : State
  pub answer : List ℕ

-- a refusal leaves the state as it was
unfoldable pub carried_out : State → Decision → Served
carried_out σ (need◌else◌then◌ true r rest) = carried_out σ rest
carried_out σ (need◌else◌then◌ false r rest) = record { state = σ; answer = r.number ∷ r.report }
carried_out σ (success after bytes) = record { state = after; answer = 0 ∷ bytes }

-- ---- what several requests begin or end with

-- the handle is this station's live one, and its mask has the right
unfoldable pub with_handle : State → ℕ → ℕ → ℕ → (Handle → Token → Decision) → Decision
with_handle σ s n right go =
    need is_live (find_handle σ s n) else not_aLive_handle then
    need permits (handle_of σ s n).mask right else right_missing then
    go (handle_of σ s n) (token_of σ (handle_of σ s n).token)

unfoldable pub can_issue : State → Bool
can_issue σ = can_add_handle σ && can_add_token σ

-- a new token, whose number is the next one, and a handle on it
unfoldable pub issued : ℕ → ℕ → Token → State → Decision
issued s mask t σ = success (add_handle s t.number mask (add_token t σ)) (encode σ.handles.next)
