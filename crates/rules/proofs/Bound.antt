-- What a handle's number stands for: the same token as long as it stands for one, and then nothing. Assumes nothing.
use Prim.Native.Nat.{ℕ, ◌<◌}
use native.Mathlib.Omega.{arith}
use mathlib.Core.Path.{◌≡◌, refl, sym, ap, ◌∙◌}
use mathlib.Core.Bool.{true}
use mathlib.Core.Logic.{◌⊎◌, inl, inr}
use mathlib.Core.List.{List}
use lib.Dec.{eqb}
use borrow.Author.Tests.{eqb-true}
use Rattle.rules.specs.Basic.{all}
use Rattle.rules.specs.Growth.{Live, LiveHandle, Mem, Follows, StillHandle}
use Rattle.rules.specs.Handle.{Handle, is_handle}
use Rattle.rules.specs.Run.{after, of_bytes, Call}
use Rattle.rules.specs.State.{State, token_of, find_handle, handle_token}
use Rattle.rules.specs.Table.{lives, Slot, free, live}
use Rattle.rules.proofs.Logic.{and_l, map_mem}
use Rattle.rules.proofs.Tables.{found_in, found_none}
use Rattle.rules.proofs.Facts.{StateFacts}
use Rattle.rules.proofs.Changes.{by_handle}
use Rattle.rules.proofs.Steps.{Is, is_live_lem}
use Rattle.rules.proofs.Always.{run_step, lasts, handle_kept_lem}

-- a handle that is found is live, and has the number
pub record Here (d : State) (s n : ℕ) (h : Handle) : Type 0 where
  pub was : Mem h (lives d.handles.slots)
  pub is : is_handle s n h ≡ true
  pub number : h.number ≡ n

pub found_here : (d : State) (s n : ℕ) (h : Handle) → find_handle d s n ≡ live h → Here d s n h
unfolding find_handle is_handle
found_here d s n h e =
    let r = found_in (is_handle s n) d.handles.slots e in
    record { was = r.0; is = r.1; number = eqb-true h.number n (and_l (eqb h.number n) (eqb h.station s) r.1) }

pub token_here : (d : State) (h : Handle) → StateFacts d → Mem h (lives d.handles.slots) → Is d h.token
unfolding handle_token
token_here d h f m = is_live_lem d h.token (f.loose.live h.token (by_handle d (map_mem handle_token m)))

module _ (σ : State) (f : StateFacts σ) (cs : List Call) (w : all of_bytes cs ≡ true) where
  same_token : (h : Handle) → LiveHandle h σ → LiveHandle h (after cs σ) → Follows (token_of σ h.token) (token_of (after cs σ) h.token)
  unfolding LiveHandle Live
  same_token h m k =
      let τ = after cs σ in
      let i = token_here σ h f m in
      let j = token_here τ h (run_step cs σ w f).facts k in
      lasts σ f cs w (token_of σ h.token) (token_of τ h.token) i.was j.was (j.number ∙ sym i.number)

  pub bound : (s n : ℕ) (h : Handle) → find_handle σ s n ≡ live h → (find_handle (after cs σ) s n ≡ free) ⊎ StillHandle σ (after cs σ) s n h
  unfolding LiveHandle
  bound s n h e = go (find_handle (after cs σ) s n) refl
    where
      go : (x : Slot Handle) → find_handle (after cs σ) s n ≡ x → (find_handle (after cs σ) s n ≡ free) ⊎ StillHandle σ (after cs σ) s n h
      go free k = inl k
      go (live g) k =
          let a = found_here σ s n h e in
          let b = found_here (after cs σ) s n g k in
          let same : g ≡ h = handle_kept_lem σ f cs w h g a.was b.was (b.number ∙ sym a.number) in
          let still : find_handle (after cs σ) s n ≡ live h = k ∙ ap live same in
          inr (record { found = still; token = same_token h a.was (found_here (after cs σ) s n h still).was })

  pub closed : (s n : ℕ) → find_handle σ s n ≡ free → n < σ.handles.next → find_handle (after cs σ) s n ≡ free
  unfolding find_handle
  closed s n e given = go (find_handle (after cs σ) s n) refl
    where
      go : (x : Slot Handle) → find_handle (after cs σ) s n ≡ x → find_handle (after cs σ) s n ≡ free
      go free k = k
      go (live g) k =
          let b = found_here (after cs σ) s n g k in
          let number = b.number in
          absurd (found_none (is_handle s n) σ.handles.slots e ((run_step cs σ w f).handles.old g b.was (omega arith)) b.is)
