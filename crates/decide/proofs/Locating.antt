-- A handle's token in its slot: in a valid state it is there. Assumes nothing.
use Prim.Native.Nat.{ℕ}
use native.Mathlib.Omega.{arith}
use mathlib.Core.Path.{◌≡◌, sym, ap, ap₂, ◌∙◌, subst}
use mathlib.Core.Bool.{Bool, true, not}
use mathlib.Core.List.{List, map}
use borrow.Author.Tests.{ne_eqb}
use Rattle.std.specs.Prelude.{◌<◌, ◌≢◌, Option, Some, unwrap_or, Result, Ok, Err}
use Rattle.rules.specs.Handle as rules
use Rattle.rules.specs.Token.{Token, new_token}
use Rattle.rules.specs.Mask.{permits}
use Rattle.rules.specs.Table.{is_live, lives}
use Rattle.rules.specs.Growth.{Mem}
use Rattle.rules.specs.Valid.{valid}
use Rattle.rules.specs.State as state
use Rattle.rules.specs.State.{State, token_slots, no_token, number_of, find_handle}
use Rattle.rules.specs.Decision.{Decision, with_handle}
use Rattle.rules.proofs.Logic.{mem_by}
use Rattle.rules.proofs.Facts.{valid_facts}
use Rattle.rules.proofs.Steps.{Is, is_live_lem, found_handle}
use Rattle.handle.specs.Meaning.{handle_of}
use Rattle.handle.specs.declared.Handle.{Handle}
use Rattle.state.specs.Parts.{TokensIn, HandlesIn}
use Rattle.state.specs.HandleFacts.{HandleGiven}
use Rattle.state.specs.TokenCalls.{FoundAt}
use Rattle.state.proofs.FormedLaws.{valid_formed}
use Rattle.state.proofs.InPlace.{no_token_lem}
use Rattle.answer.specs.declared.refusal.Refusal.{Refusal}
use Rattle.answer.specs.declared.refusal.Refusal.TheVariants as refusal
use Rattle.decide.specs.Carried.{Carried}
use Rattle.decide.specs.declared.located.Located.{Located}
use Rattle.decide.specs.Lookup.{handle_refusal, Judged, LookedUp}
use Rattle.decide.specs.Located.{SlotGiven, LocatedBy}
use Rattle.decide.proofs.Deciding.{refuses}
use Rattle.decide.proofs.LookupLaws.{stops_at, looked_up_found}

-- a live token of a valid state is in a slot
unslotted : {token : ℕ} {ts : List ℕ} → FoundAt token ts token_slots → (σ : State) → valid σ ≡ true → {ds : List ℕ} → TokensIn σ ts ds → Is σ token → ⊥
unfolding no_token new_token
unslotted {token} at σ v k is =
    let given = ((valid_formed σ v).tokens _ is.was).1 in
    let none = ap (λ (x : Token). x.number) (no_token_lem token at v k (omega arith)) in
    absurd (omega arith)

-- so a valid state has no live handle without its token: neither one that was looked up
module _ {s n right : ℕ} {hs : List Handle} {ts : List ℕ} {h : Handle} (l : LookedUp s n right hs (Ok h)) where
  lost : FoundAt h.token ts token_slots → (σ : State) → valid σ ≡ true → {ds : List ℕ} → HandlesIn σ hs → TokensIn σ ts ds → ⊥
  lost at σ v i k = unslotted at σ v k (looked_up_found l σ v i).token

  pub token_lost : FoundAt h.token ts token_slots → LocatedBy s n right hs ts (Err refusal.NotALiveHandle)
  token_lost at = record { there = tt; refusal = λ σ v i k. absurd (lost at σ v i k) }

-- nor one that was found
pub found_lost : {found : Option Handle} {h : Handle} {ts : List ℕ} (permitted : Bool) → found ≡ Some h → FoundAt h.token ts token_slots → SlotGiven found permitted ts (Err refusal.NotALiveHandle)
found_lost {h = h} permitted e at = record { there = tt; refusal = λ σ v k m. absurd (unslotted at σ v k (is_live_lem σ h.token (rw e at m))) }

pub token_there : {found : Option Handle} {h : Handle} {permitted : Bool} {ts : List ℕ} {i : ℕ} → Judged found permitted (Ok h) → (k : Handle) → found ≡ Some k → FoundAt k.token ts i → i < token_slots
    → SlotGiven found permitted ts (Ok (record { handle = h; slot = i }))
token_there {ts = ts} {i = i} j k e at in16 = record {
  there = (j.handle, in16, subst (λ (o : Option Handle). FoundAt (unwrap_or o k).token ts i) (sym e ∙ j.handle) at);
  refusal = λ σ v t m. j.refusal;
}

-- the handle that a station has by a number
module _ {s n : ℕ} {hs : List Handle} {h : Handle} (g : HandleGiven s n hs h) (live : h.number ≢ 0) where
  is_found : (σ : State) → valid σ ≡ true → HandlesIn σ hs → is_live (find_handle σ s n) ≡ true
  is_found σ v i = g.live σ v i ∙ ap not (ne_eqb h.number 0 live)

  is_there : (σ : State) → valid σ ≡ true → HandlesIn σ hs → Mem h.token (map number_of (lives σ.tokens.slots))
  unfolding number_of
  is_there σ v i =
      let is = (found_handle σ s n (valid_facts σ v) (is_found σ v i)).token in
      mem_by number_of (ap (λ (y : rules.Handle). y.token) (g.handle σ v i) ∙ sym is.number) is.was

  judged_by : {permitted : Bool} (right : ℕ) → permitted ≡ permits h.mask right → (σ : State) → valid σ ≡ true → HandlesIn σ hs
      → handle_refusal true permitted ≡ handle_refusal (is_live (find_handle σ s n)) (permits (state.handle_of σ s n).mask right)
  judged_by right p σ v i =
      ap₂ handle_refusal (sym (is_found σ v i)) (p ∙ ap (λ (y : rules.Handle). permits y.mask right) (g.handle σ v i))

  pub locates_by : {permitted : Bool} {right : ℕ} {ts : List ℕ} → permitted ≡ permits h.mask right → (r : Result Located Refusal) → SlotGiven (Some h) permitted ts r → LocatedBy s n right hs ts r
  locates_by {right = right} p (Ok x) l = record {
    there = record {
      inside = l.there.1;
      slot = l.there.2;
      handle = λ σ v i. ap (λ (o : Option Handle). handle_of (unwrap_or o h)) (sym l.there.0) ∙ g.handle σ v i;
    };
    refusal = λ σ v i k. l.refusal σ v k (is_there σ v i) ∙ judged_by right p σ v i;
  }
  locates_by {right = right} p (Err e) l = record { there = tt; refusal = λ σ v i k. l.refusal σ v k (is_there σ v i) ∙ judged_by right p σ v i }

-- a request that begins with the handle
pub locating_refuses : {s n right : ℕ} {hs : List Handle} {ts : List ℕ} {e : Refusal} → LocatedBy s n right hs ts (Err e) → {cs ds : List ℕ} (go : State → rules.Handle → Token → Decision)
    → Carried (λ σ. with_handle σ s n right (go σ)) ts ds hs cs ts ds cs (Err e)
locating_refuses {s} {n} {right} {e = e} g go = refuses e (λ σ v p. stops_at σ s n right (go σ) (g.refusal σ v p.handles p.tokens))
