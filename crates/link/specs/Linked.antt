-- What the parts of request 17 give, for every valid state that the parts hold. Assumes nothing.
use Rattle.std.specs.Prelude.{ℕ, ◌≡◌, true, Option, unwrap_or, is_some, Result, List}
use Rattle.rules.specs.Number.{encode}
use Rattle.rules.specs.Mask as Mask
use Rattle.rules.specs.Mask.{all_rights}
use Rattle.rules.specs.Refusal.{table_full}
use Rattle.rules.specs.Privileges.{tcb}
use Rattle.rules.specs.Table.{is_live}
use Rattle.rules.specs.State.{State, token_of, pair_of, used, can_add_handle, add_handle}
use Rattle.rules.specs.Valid.{valid}
use Rattle.rules.specs.Link.{partner_of, clone}
use Rattle.rules.specs.Decision.{need◌else◌then◌, success, can_issue, issued}
use Rattle.handle.specs.declared.Handle.{Handle}
use Rattle.control.specs.Control.{ControlIn}
use Rattle.state.specs.TokenCalls.{FoundAt}
use Rattle.answer.specs.declared.refusal.Refusal.{Refusal}
use Rattle.decide.specs.declared.outcome.Outcome.{Outcome}
use Rattle.decide.specs.Carried.{Carried}

-- 0 where the token is in no pair
pub record PartnerGiven (token : ℕ) (cs : List ℕ) (r : Option ℕ) : Type 0 where
  pub partner : (σ : State) → valid σ ≡ true → ControlIn σ cs → unwrap_or r 0 ≡ partner_of σ token
  pub linked : (σ : State) → valid σ ≡ true → ControlIn σ cs → is_some r ≡ is_live (pair_of σ token)

-- a handle with all rights, if there is a slot for it
pub record PartnerOpened (s partner : ℕ) (ts ds : List ℕ) (hs : List Handle) (cs ts' ds' cs' : List ℕ) (r : Result Outcome Refusal) : Type 0 where
  pub carried : Carried (λ σ. need can_add_handle σ else table_full then success (add_handle s partner all_rights (used tcb s σ)) (encode σ.handles.next)) ts ds hs cs ts' ds' cs' r

-- a clone of the token in a slot, if there is room for it, whatever number the slot is of
pub record CloneIssued (s slot : ℕ) (ts ds : List ℕ) (hs : List Handle) (cs ts' ds' cs' : List ℕ) (r : Result Outcome Refusal) : Type 0 where
  pub carried : (n : ℕ) → FoundAt n ts slot
      → Carried (λ σ. need can_issue σ else table_full then issued s Mask.query (clone σ.tokens.next (token_of σ n)) σ) ts ds hs cs ts' ds' cs' r
