-- What is read in the parts of a valid state. Assumes nothing.
use Prim.Native.Nat.{ℕ, ◌*◌, ◌≤◌, ◌<◌}
use native.Mathlib.Omega.{arith}
use mathlib.Core.Path.{◌≡◌, sym, ap, ap₂, ◌∙◌, subst}
use mathlib.Core.Bool.{true, ◌&&◌}
use mathlib.Core.List.{List}
use lib.Dec.{ltb}
use lib.ListN.{length, get_or}
use borrow.Author.Tests.{ltb-true, lt-ltb, le-ltb}
use Rattle.std.specs.Prelude.{Option, None, Some, is_some, unwrap_or, IfSome, ◌/◌}
use Rattle.std.specs.Borrow.{Bor}
use Rattle.std.specs.Slice.{IsItemAt}
use Rattle.std.specs.Simd.{first_chunks}
use Rattle.table.specs.Table.{part_at}
use Rattle.table.specs.Chunks.{rows_long, row_at}
use Rattle.rules.specs.Number.{max64}
use Rattle.rules.specs.Table.{can_add}
use Rattle.rules.specs.State.{State, token_slots, can_add_token}
use Rattle.rules.specs.Index.{free_index}
use Rattle.rules.specs.Valid.{valid}
use Rattle.rules.specs.Memory.{token_counter, token_words}
use Rattle.rules.proofs.Logic.{and_r}
use Rattle.rules.proofs.Facts.{valid_facts}
use Rattle.token.specs.Meaning.{slots_of}
use Rattle.control.specs.Counters.{NextGiven}
use Rattle.state.specs.Parts.{TokensIn}
use Rattle.state.proofs.FormedLaws.{valid_formed, tokens_back}
use Rattle.state.specs.TokenCalls.{FreeSlot, CanAdd, lent, RowAt}
use Rattle.state.proofs.Slots.{some_free_lem}

-- ---- the slots that the rows stand for

pub slots_read : {σ : State} {ts ds : List ℕ} → valid σ ≡ true → TokensIn σ ts ds → slots_of ts ds ≡ σ.tokens.slots
slots_read {σ} {ts} {ds} v i = tokens_back σ (valid_formed σ v) ts ds i

pub slots_long : (σ : State) → valid σ ≡ true → length σ.tokens.slots ≡ token_slots
slots_long σ v = (valid_facts σ v).loose.tokens.sized

-- ---- the row in a slot

module _ (i : ℕ) (ts : List ℕ) {rows : List (List ℕ)} (l : length ts ≡ token_slots * token_words) (e : rows ≡ first_chunks token_words (length ts / token_words) ts) where
  all_rows : rows ≡ first_chunks token_words token_slots ts
  all_rows = e ∙ ap (λ (n : ℕ). first_chunks token_words (n / token_words) ts) l

  count : length rows ≡ token_slots
  count = rows_long token_words token_slots ts all_rows

  pub row_lent : {r : List ℕ} (d : List ℕ) → i < token_slots → r ≡ get_or rows i d → r ≡ lent i ts
  row_lent d h g = g ∙ row_at token_words token_slots ts all_rows d (omega (arith, count)) ∙ sym (part_at token_words i ts)

  pub row_given : (o : Option (Bor (List ℕ))) → IsItemAt rows i o → RowAt i ts o
  row_given None h = subst (λ (n : ℕ). n ≤ i) count h.3
  row_given (Some w) h =
      let inside : i < token_slots = subst (λ (n : ℕ). i < n) count h.3.0 in
      (inside, row_lent w.now inside h.1)

-- ---- room for a token

pub some_below : (n : ℕ) (o : Option ℕ) → IfSome o (λ k. k < n) → is_some o ≡ ltb (unwrap_or o n) n
some_below n None l = sym (le-ltb n n (omega arith))
some_below n (Some k) l = sym (lt-ltb k n l)

pub can_add_lem : (o : Option ℕ) {ts cs : List ℕ} {n : ℕ} → FreeSlot ts o → NextGiven token_counter cs n → CanAdd ts cs (is_some o && ltb n max64)
unfolding can_add_token can_add
can_add_lem o {n = n} e w = record {
  below = λ h. let l = ltb-true n max64 (and_r (is_some o) _ h) in omega (arith, w.word);
  can_add = λ σ v {ds} t j.
      let ps = σ.tokens.slots in
      let at : ltb (unwrap_or o token_slots) token_slots ≡ ltb (free_index ps) (length ps) = ap₂ ltb (e.0 ds ∙ ap free_index (slots_read v t)) (sym (slots_long σ v)) in
      ap₂ ◌&&◌ (some_below token_slots o e.1 ∙ at ∙ sym (some_free_lem ps)) (ap (λ (k : ℕ). ltb k max64) (w.next σ j));
}
