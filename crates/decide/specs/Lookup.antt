-- The handle that a request names, and what the request is refused for by it. Assumes nothing.
use Rattle.std.specs.Prelude.{ℕ, ◌≡◌, Bool, true, Option, None, Some, is_some, Result, Ok, Err, IfOk, List, if◌then◌else◌}
use Rattle.rules.specs.Mask.{permits}
use Rattle.rules.specs.Table.{is_live}
use Rattle.rules.specs.Valid.{valid}
use Rattle.rules.specs.State as state
use Rattle.rules.specs.State.{State, find_handle}
use Rattle.handle.specs.Meaning.{handle_of}
use Rattle.handle.specs.declared.Handle.{Handle}
use Rattle.state.specs.Parts.{HandlesIn}
use Rattle.answer.specs.declared.refusal.Refusal.{Refusal}
use Rattle.answer.specs.declared.refusal.Refusal.TheVariants as refusal

-- what is refused, if anything
abbrev pub refused : {A : Type 0} → Result A Refusal → Option Refusal
refused (Ok a) = None
refused (Err e) = Some e

abbrev pub handle_refusal : (is_live permitted : Bool) → Option Refusal
handle_refusal known permitted = if known then (if permitted then None else Some refusal.RightMissing) else Some refusal.NotALiveHandle

-- what a handle that was found, if one was, is refused for
pub record Judged (found : Option Handle) (permitted : Bool) (r : Result Handle Refusal) : Type 0 where
  pub handle : IfOk r (λ h. found ≡ Some h)
  pub refusal : refused r ≡ handle_refusal (is_some found) permitted

pub record LookedUp (station number right : ℕ) (hs : List Handle) (r : Result Handle Refusal) : Type 0 where
  pub handle : IfOk r (λ h. (σ : State) → valid σ ≡ true → HandlesIn σ hs → handle_of h ≡ state.handle_of σ station number)
  pub refusal : (σ : State) → valid σ ≡ true → HandlesIn σ hs
      → refused r ≡ handle_refusal (is_live (find_handle σ station number)) (permits (state.handle_of σ station number).mask right)
