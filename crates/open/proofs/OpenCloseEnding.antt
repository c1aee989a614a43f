-- Requests 1 and 2, end by end: what the calls gave is what the rules decide. Assumes nothing.
use Prim.Native.Nat.{ℕ}
use mathlib.Core.Path.{◌≡◌, refl, sym, ap, ◌∙◌}
use mathlib.Core.Bool.{Bool, true, false}
use mathlib.Core.List.{List, ◌∷◌}
use Rattle.std.specs.Prelude.{Option, None, Some, is_some, Result, Ok, Err}
use Rattle.rules.specs.Number.{encode}
use Rattle.rules.specs.Mask.{valid_mask}
use Rattle.rules.specs.Table.{is_live}
use Rattle.rules.specs.State.{State, with_handles, find_handle, add_handle}
use Rattle.rules.specs.Valid.{valid}
use Rattle.rules.specs.Decision.{carried_out}
use Rattle.rules.specs.OpenClose.{open_own, close}
use Rattle.handle.specs.declared.Handle.{Handle}
use Rattle.state.specs.declared.handles.Change.{Change}
use Rattle.control.specs.Stations.{CallerNumber}
use Rattle.state.specs.HandleFacts.{HandleRoom, HandleAdded}
use Rattle.state.specs.ReleaseFacts.{PartsIn, Closed}
use Rattle.state.proofs.FormedLaws.{valid_formed, tokens_same}
use Rattle.answer.specs.declared.Answer.TheVariants as answers
use Rattle.answer.specs.declared.refusal.Refusal.{Refusal}
use Rattle.answer.specs.declared.refusal.Refusal.TheVariants as refusal
use Rattle.decide.specs.declared.outcome.Outcome.{Outcome}
use Rattle.decide.specs.Carried.{Carried}
use Rattle.decide.proofs.Deciding.{refuses}

-- ---- open own

module _ (s mask : ℕ) {b : Bool} (q : b ≡ valid_mask mask) {hs : List Handle} {cs ts ds : List ℕ} where
  pub bad_mask : b ≡ false → Carried (λ σ. open_own σ s mask) ts ds hs cs ts ds cs (Err refusal.BadField)
  unfolding open_own carried_out
  bad_mask f = refuses refusal.BadField (λ σ v p. rw (sym q ∙ f))

  module _ (ok : b ≡ true) {room : Bool} (k : HandleRoom hs cs room) where
    pub no_room : room ≡ false → Carried (λ σ. open_own σ s mask) ts ds hs cs ts ds cs (Err refusal.TableFull)
    unfolding open_own carried_out
    no_room f = refuses refusal.TableFull (λ σ v p. rw (sym q ∙ ok, sym (k.room σ v p.handles p.control) ∙ f))

    pub opened : room ≡ true → {own : ℕ} {cs' : List ℕ} (x : Change) → CallerNumber s cs own → HandleAdded s own mask hs cs cs' x
        → Carried (λ σ. open_own σ s mask) ts ds hs cs ts ds cs' (Ok (record { answer = answers.Value x.handle.number; change = Some x }))
    unfolding open_own carried_out add_handle with_handles
    opened t {own} x c a =
        let served : (σ : State) → valid σ ≡ true → PartsIn σ ts ds hs cs
        → carried_out σ (open_own σ s mask) ≡ record { state = add_handle s own mask σ; answer = 0 ∷ encode σ.handles.next } =
        λ σ v p. rw (sym q ∙ ok, sym (k.room σ v p.handles p.control) ∙ t, sym (c.number σ p.control)) in
        record {
          parts = λ σ v p. rw (served σ v p) (record {
            handles = a.handles σ (valid_formed σ v) p.handles p.control;
            control = a.control σ p.control;
            tokens = tokens_same refl p.tokens;
          });
          answer = λ σ v p. rw (served σ v p) (ap (λ (n : ℕ). 0 ∷ encode n) (a.number σ p.control));
          fit = λ σ v p. tt;
        }

-- ---- close

module _ {s n : ℕ} {hs : List Handle} {cs ts ds : List ℕ} where
  pub not_live : {ts' ds' : List ℕ} {x : Option Change} {r : Result Outcome Refusal} → Closed s n ts ds hs cs ts' ds' x → x ≡ None → r ≡ Err refusal.NotALiveHandle
      → Carried (λ σ. close σ s n) ts ds hs cs ts' ds' cs r
  unfolding close carried_out
  not_live c none e =
      let same = c.none (ap is_some none) in
      rw (e, same.0, same.1) (refuses refusal.NotALiveHandle (λ σ v p. rw (sym (c.live σ v p.handles) ∙ ap is_some none)))

  pub closed : {ts' ds' : List ℕ} {x : Change} → Closed s n ts ds hs cs ts' ds' (Some x)
      → Carried (λ σ. close σ s n) ts ds hs cs ts' ds' cs (Ok (record { answer = answers.Done; change = Some x }))
  unfolding close carried_out
  closed c =
      let live : (σ : State) → valid σ ≡ true → PartsIn σ ts ds hs cs → is_live (find_handle σ s n) ≡ true = λ σ v p. sym (c.live σ v p.handles) in
      record {
        parts = λ σ v p. rw (live σ v p) (c.parts σ v p (live σ v p));
        answer = λ σ v p. rw (live σ v p);
        fit = λ σ v p. tt;
      }
