-- How a request that names a handle is decided, from what looking the handle up gave. Assumes nothing.
use Prim.Native.Nat.{ℕ, ◌<◌}
use native.Mathlib.Omega.{arith}
use mathlib.Core.Path.{◌≡◌, refl, sym, ap, ◌∙◌, subst}
use mathlib.Core.Bool.{Bool, true, false, not}
use mathlib.Core.List.{List}
use lib.Dec.{eqb}
use Rattle.std.specs.Prelude.{Option, None, Some, Ok, Err, unwrap_or}
use Rattle.rules.specs.Bits.{within}
use Rattle.rules.specs.Mask.{all_rights, permits, valid_mask}
use Rattle.rules.specs.Refusal.{not_aLive_handle, right_missing}
use Rattle.rules.specs.Table.{is_live}
use Rattle.rules.specs.Handle as rules
use Rattle.rules.specs.Token.{Token}
use Rattle.rules.specs.Valid.{valid}
use Rattle.rules.specs.State as state
use Rattle.rules.specs.State.{State, find_handle, token_of}
use Rattle.rules.specs.Decision.{Decision, Served, carried_out, need◌else◌then◌, with_handle}
use Rattle.rules.proofs.Bits.{within_le}
use Rattle.rules.proofs.Logic.{and_r}
use Rattle.rules.proofs.Facts.{valid_facts}
use Rattle.rules.proofs.Steps.{Found, found_handle}
use Rattle.handle.specs.Words.{word16}
use Rattle.handle.specs.Meaning.{handle_of}
use Rattle.handle.specs.declared.Handle.{Handle}
use Rattle.state.specs.Parts.{HandlesIn}
use Rattle.answer.specs.Refusal.{refusal_of}
use Rattle.answer.specs.declared.refusal.Refusal.{Refusal}
use Rattle.answer.specs.declared.refusal.Refusal.TheVariants as refusal
use Rattle.decide.specs.Carried.{Carried}
use Rattle.decide.specs.Lookup.{handle_refusal, LookedUp}
use Rattle.decide.proofs.Deciding.{stays, refuses}

-- a mask that may be asked for is one that a handle can have
pub mask_narrow : (mask : ℕ) {b : Bool} → b ≡ valid_mask mask → b ≡ true → mask < word16
unfolding valid_mask
mask_narrow mask e t = let l = within_le mask all_rights (and_r (not (eqb mask 0)) (within mask all_rights) (sym e ∙ t)) in omega arith

-- ---- the decision

abbrev pub decide : (σ : State) (known permitted : Bool) (rest : Decision) → Served
decide σ known permitted rest =
    carried_out σ (need known else not_aLive_handle then need permitted else right_missing then rest)

pub stopped : (σ : State) (known permitted : Bool) (rest : Decision) {e : Refusal} → Some e ≡ handle_refusal known permitted → decide σ known permitted rest ≡ stays σ (refusal_of e)
unfolding carried_out
stopped σ true true rest h = cc
stopped σ true false rest h = ap (λ (o : Option Refusal). stays σ (refusal_of (unwrap_or o refusal.RightMissing))) (sym h)
stopped σ false permitted rest h = ap (λ (o : Option Refusal). stays σ (refusal_of (unwrap_or o refusal.NotALiveHandle))) (sym h)

pub passed : (σ : State) (known permitted : Bool) (rest : Decision) → None ≡ handle_refusal known permitted → decide σ known permitted rest ≡ carried_out σ rest
unfolding carried_out
passed σ true true rest e = refl
passed σ true false rest e = cc
passed σ false permitted rest e = cc

pub is_known_lem : (known permitted : Bool) → None ≡ handle_refusal known permitted → known ≡ true
is_known_lem true permitted e = refl
is_known_lem false permitted e = cc

-- one state, whose refusal is known
module _ (σ : State) (s n right : ℕ) (go : rules.Handle → Token → Decision) where
  pub stops_at : {e : Refusal} → Some e ≡ handle_refusal (is_live (find_handle σ s n)) (permits (state.handle_of σ s n).mask right)
      → carried_out σ (with_handle σ s n right go) ≡ stays σ (refusal_of e)
  unfolding with_handle
  stops_at h = stopped σ (is_live (find_handle σ s n)) (permits (state.handle_of σ s n).mask right) _ h

  pub goes_on : None ≡ handle_refusal (is_live (find_handle σ s n)) (permits (state.handle_of σ s n).mask right)
      → carried_out σ (with_handle σ s n right go) ≡ carried_out σ (go (state.handle_of σ s n) (token_of σ (state.handle_of σ s n).token))
  unfolding with_handle
  goes_on z = passed σ (is_live (find_handle σ s n)) (permits (state.handle_of σ s n).mask right) _ z

-- the refusal of any request that begins with the handle
pub handle_refuses : {s n right : ℕ} {hs : List Handle} {e : Refusal} → LookedUp s n right hs (Err e) → {cs ts ds : List ℕ} (go : State → rules.Handle → Token → Decision)
    → Carried (λ σ. with_handle σ s n right (go σ)) ts ds hs cs ts ds cs (Err e)
handle_refuses {s} {n} {right} {e = e} l go = refuses e (λ σ v p. stops_at σ s n right (go σ) (l.refusal σ v p.handles))

module _ {s n right : ℕ} {hs : List Handle} {h : Handle} (l : LookedUp s n right hs (Ok h)) (σ : State) (v : valid σ ≡ true) (i : HandlesIn σ hs) where
  pub looked_up : (go : rules.Handle → Token → Decision) → carried_out σ (with_handle σ s n right go) ≡ carried_out σ (go (handle_of h) (token_of σ h.token))
  looked_up go =
      goes_on σ s n right go (l.refusal σ v i)
      ∙ ap (λ (x : rules.Handle). carried_out σ (go x (token_of σ x.token))) (sym (l.handle σ v i))

  pub looked_up_found : Found σ (handle_of h)
  looked_up_found = subst (Found σ) (sym (l.handle σ v i))
      (found_handle σ s n (valid_facts σ v) (is_known_lem (is_live (find_handle σ s n)) (permits (state.handle_of σ s n).mask right) (l.refusal σ v i)))
