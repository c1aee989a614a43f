-- A token that is read in its row, or changed there: what row a number's slot has, and what the state is once the row has become another
-- token's. Assumes nothing.
use Prim.Native.Nat.{ℕ, ◌+◌, ◌*◌, ◌-◌, ◌≤◌, ◌<◌}
use native.Mathlib.Omega.{arith}
use mathlib.Core.Path.{◌≡◌, refl, sym, ap, ◌∙◌}
use mathlib.Core.Bool.{true}
use mathlib.Core.List.{List, ◌++◌}
use lib.ListN.{take, drop, get_or, set, take-append-drop, get_or-eq_default}
use lib.Seq.{set_out}
use borrow.Author.Tests.{eqb-true}
use Rattle.table.specs.Lists.{pad}
use Rattle.table.specs.Table.{flat, nth_record, put_record, record_flat, part_at, put_lent}
use Rattle.rules.specs.Token as Rules
use Rattle.rules.specs.Token.{max_dacl}
use Rattle.rules.specs.Table.{free, live, or_else, found, with_slots}
use Rattle.rules.specs.State as State
use Rattle.rules.specs.State.{State, token_slots, no_token, is_numbered, with_tokens, put_token, change_token}
use Rattle.rules.specs.Index.{found_index}
use Rattle.rules.specs.Valid.{valid, token_valid}
use Rattle.rules.specs.Memory.{token_words, token_row, dacl_row, slot_row, slot_dacl}
use Rattle.rules.proofs.Index.{found_at, exchanged_set}
use Rattle.rules.proofs.Tables.{live_slot, found_in}
use Rattle.rules.proofs.Rows.{length_slot_row, length_slot_dacl}
use Rattle.token.proofs.Laws.{put_words, put_dacls}
use Rattle.token.proofs.Finding.{no_slot}
use Rattle.state.specs.Parts.{TokensIn}
use Rattle.state.specs.TokenCalls.{FoundAt, lent, WordsChanged}
use Rattle.state.proofs.FormedLaws.{valid_formed}
use Rattle.state.proofs.Slots.{found_live}
use Rattle.state.proofs.TokenLooks.{slots_read, slots_long}

-- the token of number n is the one in slot i
pub record InSlot (σ : State) (n i : ℕ) (ts ds : List ℕ) : Type 0 where
  pub there : get_or σ.tokens.slots i free ≡ live (State.token_of σ n)
  pub number : (State.token_of σ n).number ≡ n
  pub is_valid : token_valid (State.token_of σ n) ≡ true
  pub words : nth_record token_words i ts ≡ token_row (State.token_of σ n)
  pub bytes : nth_record max_dacl i ds ≡ dacl_row (State.token_of σ n)

module _ (n : ℕ) {i : ℕ} {ts ds : List ℕ} (at : FoundAt n ts i) {σ : State} (v : valid σ ≡ true) (h : TokensIn σ ts ds) where
  index : i ≡ found_index (is_numbered n) σ.tokens.slots
  index = at ds ∙ ap (found_index (is_numbered n)) (slots_read v h)

  pub in_slot : i < token_slots → InSlot σ n i ts ds
  unfolding State.token_of is_numbered slot_row slot_dacl
  in_slot l =
      let ps = σ.tokens.slots in
      let long = slots_long σ v in
      let w = index in
      let e : found (is_numbered n) ps ≡ live (State.token_of σ n) = live_slot no_token (found (is_numbered n) ps) (found_live (is_numbered n) ps (omega arith)) in
      let was = found_in (is_numbered n) ps e in
      let there : get_or ps i free ≡ live (State.token_of σ n) = ap (λ (k : ℕ). get_or ps k free) w ∙ sym (found_at (is_numbered n) ps) ∙ e in
      record {
        there = there;
        number = eqb-true (State.token_of σ n).number n was.1;
        is_valid = ((valid_formed σ v).tokens (State.token_of σ n) was.0).0;
        words = ap (nth_record token_words i) h.words ∙ record_flat slot_row token_words length_slot_row i ps free (omega arith) ∙ ap slot_row there;
        bytes = ap (nth_record max_dacl i) h.bytes ∙ record_flat slot_dacl max_dacl length_slot_dacl i ps free (omega arith) ∙ ap slot_dacl there;
      }

  pub no_token_lem : token_slots ≤ i → State.token_of σ n ≡ no_token
  unfolding State.token_of or_else
  no_token_lem l =
      let ps = σ.tokens.slots in
      let long = slots_long σ v in
      let w = index in
      ap (or_else no_token) (found_at (is_numbered n) ps ∙ get_or-eq_default ps free (omega arith))

-- ---- the token of a number becomes another one of that number

module _ (n : ℕ) {i : ℕ} {ts ds : List ℕ} (at : FoundAt n ts i) {σ : State} (v : valid σ ≡ true) (h : TokensIn σ ts ds) where
  pub put_in_place : i < token_slots → (u : Rules.Token) → u.number ≡ n → {ws bs : List ℕ} → ws ≡ token_row u → bs ≡ dacl_row u
      → TokensIn (put_token u σ) (put_record token_words i ws ts) (put_record max_dacl i bs ds)
  unfolding put_token with_tokens with_slots slot_row slot_dacl
  put_in_place l u k {ws} {bs} ew eb =
      let ps = σ.tokens.slots in
      let long = slots_long σ v in
      let e : set ps i (live u) ≡ (put_token u σ).tokens.slots =
      ap (λ (j : ℕ). set ps j (live u)) (index n at v h ∙ ap (λ (m : ℕ). found_index (is_numbered m) ps) (sym k)) ∙ sym (exchanged_set (is_numbered u.number) (live u) ps) in
      record {
        words = ap (λ (w : List ℕ). put_record token_words i w ts) ew ∙ ap (put_record token_words i (token_row u)) h.words ∙ put_words ps i (omega arith) (live u) ∙ ap (flat slot_row) e;
        bytes = ap (λ (w : List ℕ). put_record max_dacl i w ds) eb ∙ ap (put_record max_dacl i (dacl_row u)) h.bytes ∙ put_dacls ps i (omega arith) (live u) ∙ ap (flat slot_dacl) e;
      }

  -- a token of number 0: no slot has it
  pub put_nowhere : token_slots ≤ i → (u : Rules.Token) → u.number ≡ (State.token_of σ n).number → TokensIn (put_token u σ) ts ds
  unfolding put_token with_tokens with_slots no_token Rules.new_token
  put_nowhere l u k =
      let ps = σ.tokens.slots in
      let long = slots_long σ v in
      let zero_number : u.number ≡ 0 = k ∙ ap (λ (x : Rules.Token). x.number) (no_token_lem n at v h l) in
      let none : token_slots ≡ found_index (is_numbered u.number) ps =
      (no_slot ts {x = u.number} (omega arith)).0 ds ∙ ap (found_index (is_numbered u.number)) (slots_read v h) in
      let e : ps ≡ (put_token u σ).tokens.slots =
      sym (set_out ps (found_index (is_numbered u.number) ps) (live u) (omega arith)) ∙ sym (exchanged_set (is_numbered u.number) (live u) ps) in
      record { words = h.words ∙ ap (flat slot_row) e; bytes = h.bytes ∙ ap (flat slot_dacl) e }

-- ---- the row as it is lent, and as it comes back

abbrev pub back : ℕ → List ℕ → List ℕ → List ℕ
back i ws ts = take (i * token_words) ts ++ (ws ++ drop (i * token_words + token_words - i * token_words) (drop (i * token_words) ts))

put_same : (w i : ℕ) (xs : List ℕ) → xs ≡ put_record w i (nth_record w i xs) xs
unfolding nth_record put_record
put_same w i xs = sym (take-append-drop (i * w) xs) ∙ ap (λ (l : List ℕ). take (i * w) xs ++ l) (sym (take-append-drop w (drop (i * w) xs)))

module _ (n : ℕ) {i : ℕ} {ts ds : List ℕ} (at : FoundAt n ts i) {σ : State} (v : valid σ ≡ true) (h : TokensIn σ ts ds) (l : i < token_slots) where
  pub lent_row : lent i ts ≡ token_row (State.token_of σ n)
  lent_row = part_at token_words i ts ∙ (in_slot n at v h l).words

  -- the DACL stays
  pub put_words_in_place : (u : Rules.Token) → u.number ≡ (State.token_of σ n).number → u.defaults.dacl ≡ (State.token_of σ n).defaults.dacl
      → {ws : List ℕ} → ws ≡ token_row u → TokensIn (put_token u σ) (back i ws ts) ds
  unfolding dacl_row
  put_words_in_place u k d {ws} e =
      let s = in_slot n at v h l in
      let c = put_in_place n at v h l u (k ∙ s.number) e (s.bytes ∙ sym (ap (pad max_dacl) d)) in
      record { words = put_lent token_words i {r = ws} ts refl ∙ c.words; bytes = put_same max_dacl i ds ∙ c.bytes }

  pub kept_in_place : {ws : List ℕ} → ws ≡ token_row (State.token_of σ n) → back i ws ts ≡ ts
  kept_in_place {ws} e = put_lent token_words i {r = ws} ts (e ∙ sym (in_slot n at v h l).words) ∙ sym (put_same token_words i ts)

-- ---- a change of every token's row

module _ {n i : ℕ} {ts : List ℕ} (at : FoundAt n ts i) (f : Rules.Token → Rules.Token) (keeps : (t : Rules.Token) → (f t).number ≡ t.number) where
  -- it leaves the DACL
  pub words_changed : ((t : Rules.Token) → (f t).defaults.dacl ≡ t.defaults.dacl)
      → i < token_slots → {ws : List ℕ} → ((t : Rules.Token) → token_valid t ≡ true → lent i ts ≡ token_row t → ws ≡ token_row (f t)) → WordsChanged n f ts (back i ws ts)
  unfolding change_token
  words_changed same l e = record {
    tokens = λ σ v h.
        let t = State.token_of σ n in
        put_words_in_place n at v h l (f t) (keeps t) (same t) (e t (in_slot n at v h l).is_valid (lent_row n at v h l));
  }

  pub words_unchanged : token_slots ≤ i → WordsChanged n f ts ts
  unfolding change_token
  words_unchanged l = record { tokens = λ σ v h. put_nowhere n at v h l (f (State.token_of σ n)) (keeps (State.token_of σ n)) }

-- ---- the DACL's row as it is lent, and as it comes back

abbrev pub lent_dacl : ℕ → List ℕ → List ℕ
lent_dacl i ds = take (i * max_dacl + max_dacl - i * max_dacl) (drop (i * max_dacl) ds)

abbrev pub back_dacl : ℕ → List ℕ → List ℕ → List ℕ
back_dacl i bs ds = take (i * max_dacl) ds ++ (bs ++ drop (i * max_dacl + max_dacl - i * max_dacl) (drop (i * max_dacl) ds))

module _ (n : ℕ) {i : ℕ} {ts ds : List ℕ} (at : FoundAt n ts i) {σ : State} (v : valid σ ≡ true) (h : TokensIn σ ts ds) (l : i < token_slots) where
  pub lent_dacl_row : lent_dacl i ds ≡ dacl_row (State.token_of σ n)
  lent_dacl_row = part_at max_dacl i ds ∙ (in_slot n at v h l).bytes

  pub put_rows_in_place : (u : Rules.Token) → u.number ≡ (State.token_of σ n).number → {ws bs : List ℕ} → ws ≡ token_row u → bs ≡ dacl_row u
      → TokensIn (put_token u σ) (back i ws ts) (back_dacl i bs ds)
  put_rows_in_place u k {ws} {bs} ew eb =
      let c = put_in_place n at v h l u (k ∙ (in_slot n at v h l).number) ew eb in
      record { words = put_lent token_words i {r = ws} ts refl ∙ c.words; bytes = put_lent max_dacl i {r = bs} ds refl ∙ c.bytes }

  pub dacl_kept_in_place : {bs : List ℕ} → bs ≡ dacl_row (State.token_of σ n) → back_dacl i bs ds ≡ ds
  dacl_kept_in_place {bs} e = put_lent max_dacl i {r = bs} ds (e ∙ sym (in_slot n at v h l).bytes) ∙ sym (put_same max_dacl i ds)
