-- A request on one token, carried out in the token's row: what it comes to for the whole state. Assumes nothing.
use Prim.Native.Nat.{ℕ, ◌<◌}
use mathlib.Core.Path.{◌≡◌, refl, sym, ap, ◌∙◌}
use mathlib.Core.Bool.{true}
use mathlib.Core.List.{List}
use Rattle.std.specs.Prelude.{Ok}
use Rattle.rules.specs.Handle as handles
use Rattle.rules.specs.Token.{Token}
use Rattle.rules.specs.Valid.{valid, token_valid}
use Rattle.rules.specs.State as state
use Rattle.rules.specs.State.{State, token_slots, put_token}
use Rattle.rules.specs.Memory.{token_row, dacl_row}
use Rattle.rules.specs.Decision.{Decision, Served, carried_out, with_handle}
use Rattle.handle.specs.declared.Handle.{Handle}
use Rattle.state.specs.Parts.{TokensIn}
use Rattle.state.specs.TokenCalls.{FoundAt, lent}
use Rattle.state.specs.ReleaseFacts.{PartsIn}
use Rattle.state.proofs.InPlace.{back, in_slot, lent_row, put_words_in_place, kept_in_place, lent_dacl, back_dacl, lent_dacl_row, put_rows_in_place, dacl_kept_in_place}
use Rattle.state.proofs.TokenFrames.{with_slots_lem, with_tokens_lem}
use Rattle.answer.specs.declared.Answer.{Answer}
use Rattle.answer.specs.Answer.{answer_of}
use Rattle.decide.specs.declared.located.Located.{Located}
use Rattle.decide.specs.Carried.{ends, Carried}
use Rattle.decide.specs.Located.{LocatedBy}
use Rattle.decide.specs.Ending.{Ending, refused, becomes, token_after, answered, served, RowEnds, RowsEnd}
use Rattle.decide.proofs.LookupLaws.{goes_on}
use Rattle.decide.proofs.Deciding.{ends_with}

-- a rule that goes on with the token of the handle
abbrev pub Rule : (State → handles.Handle → Token → Decision) → (Token → Ending) → Type 0
Rule go x = (σ : State) (h : handles.Handle) → carried_out σ (go σ h (state.token_of σ h.token)) ≡ served σ (x (state.token_of σ h.token))

-- ---- the parts after an ending

served_answer : (σ : State) (z : Ending) → (served σ z).answer ≡ answered z
served_answer σ (refused n) = refl
served_answer σ (becomes u bytes) = refl

served_parts : {hs : List Handle} {cs ts ds ts' ds' : List ℕ} (σ : State) (z : Ending) → PartsIn σ ts ds hs cs → TokensIn (served σ z).state ts' ds'
    → PartsIn (served σ z).state ts' ds' hs cs
unfolding put_token
served_parts σ (refused n) p k = record { handles = p.handles; control = p.control; tokens = k }
served_parts σ (becomes u bytes) p k = record { handles = with_tokens_lem p.handles _; control = with_slots_lem p.control _; tokens = k }

module _ (n : ℕ) {i : ℕ} {ts ds : List ℕ} (at : FoundAt n ts i) {σ : State} (v : valid σ ≡ true) (h : TokensIn σ ts ds) (l : i < token_slots) where
  abbrev t : Token
  t = state.token_of σ n

  words_after : (z : Ending) → (token_after t z).number ≡ t.number → (token_after t z).defaults.dacl ≡ t.defaults.dacl → {ws : List ℕ}
      → ws ≡ token_row (token_after t z) → TokensIn (served σ z).state (back i ws ts) ds
  words_after (refused k) num dacl e = record { words = kept_in_place n at v h l e ∙ h.words; bytes = h.bytes }
  words_after (becomes u bytes) num dacl e = put_words_in_place n at v h l u num dacl e

  rows_after : (z : Ending) → (token_after t z).number ≡ t.number → {ws bs : List ℕ} → ws ≡ token_row (token_after t z) → bs ≡ dacl_row (token_after t z)
      → TokensIn (served σ z).state (back i ws ts) (back_dacl i bs ds)
  rows_after (refused k) num e d = record { words = kept_in_place n at v h l e ∙ h.words; bytes = dacl_kept_in_place n at v h l d ∙ h.bytes }
  rows_after (becomes u bytes) num e d = put_rows_in_place n at v h l u num e d

-- ---- the whole request

module _ {s n right : ℕ} {hs : List Handle} {cs ts ds : List ℕ} {y : Located} (g : LocatedBy s n right hs ts (Ok y))
    (go : State → handles.Handle → Token → Decision) (x : Token → Ending) (rule : Rule go x) where
  decided : (σ : State) → valid σ ≡ true → PartsIn σ ts ds hs cs → carried_out σ (with_handle σ s n right (go σ)) ≡ served σ (x (state.token_of σ y.handle.token))
  decided σ v p =
      goes_on σ s n right (go σ) (g.refusal σ v p.handles p.tokens)
      ∙ rule σ (state.handle_of σ s n)
      ∙ ap (λ (k : ℕ). served σ (x (state.token_of σ k))) (sym (ap (λ (z : handles.Handle). z.token) (g.there.handle σ v p.handles)))

  -- the token in the row that is lent
  module _ (σ : State) (v : valid σ ≡ true) (p : PartsIn σ ts ds hs cs) where
    abbrev own : Token
    own = state.token_of σ y.handle.token

    ok : token_valid own ≡ true
    ok = (in_slot y.handle.token g.there.slot v p.tokens g.there.inside).is_valid

    row : lent y.slot ts ≡ token_row own
    row = lent_row y.handle.token g.there.slot v p.tokens g.there.inside

    told : {ws : List ℕ} {a : Answer} → RowEnds x (lent y.slot ts) ws a → (ts' ds' : List ℕ) → answer_of ts' ds' a ≡ (carried_out σ (with_handle σ s n right (go σ))).answer
    told e ts' ds' = e.answer own ok row ts' ds' ∙ sym (served_answer σ (x own)) ∙ sym (ap (λ (q : Served). q.answer) (decided σ v p))

  -- it leaves the token's number and DACL
  pub row_ends : ((t : Token) → (token_after t (x t)).number ≡ t.number) → ((t : Token) → (token_after t (x t)).defaults.dacl ≡ t.defaults.dacl)
      → {ws : List ℕ} {a : Answer} → RowEnds x (lent y.slot ts) ws a
      → Carried (λ σ. with_handle σ s n right (go σ)) ts ds hs cs (back y.slot ws ts) ds cs (Ok (ends a))
  row_ends num dacl {ws} {a} e = ends_with a (λ σ v p. e.fit _ _)
      (λ σ v p. let t = own σ v p in
      rw (decided σ v p) (served_parts σ (x t) p
      (words_after y.handle.token g.there.slot v p.tokens g.there.inside (x t) (num t) (dacl t) (e.row t (ok σ v p) (row σ v p)))))
      (λ σ v p. told σ v p e _ _)

  -- it leaves the token's number
  pub rows_end : ((t : Token) → (token_after t (x t)).number ≡ t.number)
      → {ws bs : List ℕ} {a : Answer} → RowsEnd x (lent y.slot ts) (lent_dacl y.slot ds) ws bs a
      → Carried (λ σ. with_handle σ s n right (go σ)) ts ds hs cs (back y.slot ws ts) (back_dacl y.slot bs ds) cs (Ok (ends a))
  rows_end num {ws} {bs} {a} e = ends_with a (λ σ v p. e.ends.fit _ _)
      (λ σ v p. let t = own σ v p in
      let dacl = lent_dacl_row y.handle.token g.there.slot v p.tokens g.there.inside in
      rw (decided σ v p) (served_parts σ (x t) p
      (rows_after y.handle.token g.there.slot v p.tokens g.there.inside (x t) (num t) (e.ends.row t (ok σ v p) (row σ v p)) (e.dacl t (ok σ v p) (row σ v p) dacl))))
      (λ σ v p. told σ v p e.ends _ _)
