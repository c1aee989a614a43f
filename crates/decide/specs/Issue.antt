-- What issuing a token gives, for every valid state that the parts hold. Assumes nothing.
use Rattle.std.specs.Prelude.{ℕ, ◌<◌, ◌≡◌, Bool, true, List}
use Rattle.rules.specs.Number.{max32, max64}
use Rattle.rules.specs.Token as rules
use Rattle.rules.specs.State.{State, add_token, add_handle}
use Rattle.rules.specs.Memory.{next_token, next_handle, token_row, dacl_row}
use Rattle.rules.specs.Valid.{valid}
use Rattle.rules.specs.Decision.{can_issue}
use Rattle.handle.specs.declared.Handle.{Handle}
use Rattle.control.specs.Control.{ControlIn}
use Rattle.state.specs.HandleFacts.{changed}
use Rattle.state.specs.ReleaseFacts.{PartsIn}
use Rattle.answer.specs.declared.Answer.TheVariants as answers
use Rattle.decide.specs.declared.outcome.Outcome.{Outcome}

-- both next numbers can be given
pub record NumbersLeft (cs : List ℕ) : Type 0 where
  pub token : next_token cs < max64
  pub handle : next_handle cs < max32

pub record IssueRoom (ts : List ℕ) (hs : List Handle) (cs : List ℕ) (r : Bool) : Type 0 where
  pub room : (σ : State) → valid σ ≡ true → {ds : List ℕ} → PartsIn σ ts ds hs cs → r ≡ can_issue σ
  -- what issue asks
  pub left : r ≡ true → NumbersLeft cs

-- a token by its rows, whatever token they are of
pub record RowIssued (s mask : ℕ) (ws bs ts ds : List ℕ) (hs : List Handle) (cs ts' ds' cs' : List ℕ) (r : Outcome) : Type 0 where
  pub parts : (u : rules.Token) → ws ≡ token_row u → bs ≡ dacl_row u → (σ : State) → valid σ ≡ true → PartsIn σ ts ds hs cs
      → PartsIn (add_handle s u.number mask (add_token u σ)) ts' ds' (changed hs r.change) cs'
  pub answer : (σ : State) → ControlIn σ cs → r.answer ≡ answers.Value σ.handles.next
