-- The slot of a handle's token, for every valid state that the parts hold. Assumes nothing.
use Rattle.std.specs.Prelude.{ℕ, ◌<◌, ◌≡◌, Bool, true, Option, Some, is_some, IfSome, Result, IfOk, List, map}
use Rattle.rules.specs.Mask.{permits}
use Rattle.rules.specs.Growth.{Mem}
use Rattle.rules.specs.Table.{is_live, lives}
use Rattle.rules.specs.Valid.{valid}
use Rattle.rules.specs.State as state
use Rattle.rules.specs.State.{State, token_slots, number_of, find_handle}
use Rattle.handle.specs.Meaning.{handle_of}
use Rattle.handle.specs.declared.Handle.{Handle}
use Rattle.state.specs.Parts.{TokensIn, HandlesIn}
use Rattle.state.specs.TokenCalls.{FoundAt}
use Rattle.answer.specs.declared.refusal.Refusal.{Refusal}
use Rattle.decide.specs.Lookup.{refused, handle_refusal}
use Rattle.decide.specs.declared.located.Located.{Located}

-- of a handle that was found, if one was
pub record SlotGiven (found : Option Handle) (permitted : Bool) (ts : List ℕ) (r : Result Located Refusal) : Type 0 where
  pub there : IfOk r (λ x. (found ≡ Some x.handle) × (x.slot < token_slots) × FoundAt x.handle.token ts x.slot)
  -- a handle that is live refers to a live token
  pub refusal : (σ : State) → valid σ ≡ true → {ds : List ℕ} → TokensIn σ ts ds → IfSome found (λ h. Mem h.token (map number_of (lives σ.tokens.slots)))
      → refused r ≡ handle_refusal (is_some found) permitted

-- the station's handle of that number, and the slot of its token
pub record TokenLocated (station number : ℕ) (hs : List Handle) (ts : List ℕ) (x : Located) : Type 0 where
  pub inside : x.slot < token_slots
  pub slot : FoundAt x.handle.token ts x.slot
  pub handle : (σ : State) → valid σ ≡ true → HandlesIn σ hs → handle_of x.handle ≡ state.handle_of σ station number

pub record LocatedBy (station number right : ℕ) (hs : List Handle) (ts : List ℕ) (r : Result Located Refusal) : Type 0 where
  pub there : IfOk r (TokenLocated station number hs ts)
  pub refusal : (σ : State) → valid σ ≡ true → {ds : List ℕ} → HandlesIn σ hs → TokensIn σ ts ds
      → refused r ≡ handle_refusal (is_live (find_handle σ station number)) (permits (state.handle_of σ station number).mask right)
