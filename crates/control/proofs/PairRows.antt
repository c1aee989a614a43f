-- The linked pairs' rows: a place read and stored, and the loops over places. Assumes nothing.
use Prim.Native.Nat.{ℕ, zero, suc, ◌+◌, ◌*◌, ◌<◌}
use native.Mathlib.Omega.{arith}
use mathlib.Core.Path.{◌≡◌, refl, sym, ap, ◌∙◌}
use mathlib.Core.Bool.{Bool, true, false, not, ◌&&◌}
use mathlib.Core.List.{List, [], ◌∷◌}
use lib.Dec.{eqb}
use lib.ListN.{length, drop, get_or, set}
use lib.Seq.{get_or-take, get_or-drop}
use Rattle.table.specs.Table.{flat, nth_record, record_element, length_flat, record_flat, put_flat}
use Rattle.table.specs.Rows.{rows_at, length_rows}
use Rattle.table.specs.Sections.{place_of, section_long, section_word}
use Rattle.std.specs.Prelude.{if◌then◌else◌, Option, unwrap_or}
use Rattle.rules.specs.Table.{Slot, free, live, or_else}
use Rattle.rules.specs.Pair as rules
use Rattle.rules.specs.Pair.{is_of}
use Rattle.rules.specs.State.{State, pair_slots, with_pairs}
use Rattle.rules.specs.Index.{free_index, found_index}
use Rattle.rules.specs.Memory.{pair_words, session_word, elevated_word, filtered_word, pair_section, control_sizes, pair_word_at, pairs_in, pair_at, pair_row, slot_pair, sections}
use Rattle.rules.proofs.Rows.{length_slot_pair}
use Rattle.handle.specs.First.{FirstOf}
use Rattle.handle.proofs.Rest.{First, first_index, first_within}
use Rattle.control.specs.Control.{ControlIn}
use Rattle.control.specs.Pairs.{pairs_of, pair_of, row_in, RowGiven, PairFound, PlaceFree, PairSet}
use Rattle.control.specs.declared.pairs.Pair.{Pair}
use Rattle.control.proofs.SectionRows.{own_row, row_stored}

-- ---- reading

-- what a row's words stand for
abbrev pub slot_of : (session elevated filtered : ℕ) → Slot rules.Pair
slot_of session elevated filtered = if eqb elevated 0 then free else live (pair_of session elevated filtered)

module _ (ws : List ℕ) (place : ℕ) (h : place < pair_slots) where
  pair_word : (k : ℕ) → k < pair_words → get_or (nth_record pair_words place (pairs_in ws)) k 0 ≡ get_or ws (pair_word_at place k) 0
  pair_word k l =
      sym (record_element pair_words place k (pairs_in ws) 0 l)
      ∙ get_or-take (pair_slots * pair_words) (drop (place_of control_sizes pair_section) ws) (place * pair_words + k) 0 (omega arith)
      ∙ get_or-drop (place_of control_sizes pair_section) ws (place * pair_words + k) 0

  place_read : get_or (pairs_of ws) place free ≡ slot_of (get_or ws (pair_word_at place session_word) 0) (get_or ws (pair_word_at place elevated_word) 0) (get_or ws (pair_word_at place filtered_word) 0)
  unfolding pair_at
  place_read =
      rows_at pair_at pair_words 0 free pair_slots place (pairs_in ws) [] h
      ∙ rw (pair_word session_word (omega arith), pair_word elevated_word (omega arith), pair_word filtered_word (omega arith))

  same_pair : (b : Bool) {p q : rules.Pair} → (if b then free else live p) ≡ live q → p ≡ q
  same_pair true e = cc
  same_pair false e = cc

  pub row_given : {a b c : ℕ} → a ≡ pair_word_at place session_word → b ≡ pair_word_at place elevated_word → c ≡ pair_word_at place filtered_word
      → RowGiven place ws (record { session = get_or ws a 0; elevated = get_or ws b 0; filtered = get_or ws c 0 })
  row_given {b = b} x y z = record {
    session = ap (λ (j : ℕ). get_or ws j 0) x;
    elevated = ap (λ (j : ℕ). get_or ws j 0) y;
    filtered = ap (λ (j : ℕ). get_or ws j 0) z;
    pair = λ p e. same_pair (eqb (get_or ws b 0) 0) (rw (x, y, z) (sym place_read ∙ e));
  }

-- what stands at place i
at_place : {ws : List ℕ} {i : ℕ} {r : Pair} → i < pair_slots → RowGiven i ws r → slot_of r.session r.elevated r.filtered ≡ get_or (pairs_of ws) i free
at_place {ws} {i} h g = rw (g.session, g.elevated, g.filtered) (sym (place_read ws i h))

-- ---- looking: what a test of the row at a place says of what stands there

unfoldable pub passes : (rules.Pair → Bool) → Slot rules.Pair → Bool
passes f free = false
passes f (live p) = f p

unfoldable pub is_free : Slot rules.Pair → Bool
is_free free = true
is_free (live p) = false

pub first_found : (f : rules.Pair → Bool) → First (passes f) (found_index f)
unfolding found_index passes
first_found f = record { none = refl; step = by }
  where
    by : (x : Slot rules.Pair) (ys : List (Slot rules.Pair)) → found_index f (x ∷ ys) ≡ (if passes f x then zero else suc (found_index f ys))
    by free ys = refl
    by (live p) ys = refl

pub first_free : First is_free free_index
unfolding free_index is_free
first_free = record { none = refl; step = by }
  where
    by : (x : Slot rules.Pair) (ys : List (Slot rules.Pair)) → free_index (x ∷ ys) ≡ (if is_free x then zero else suc (free_index ys))
    by free ys = refl
    by (live p) ys = refl

passes_slot : (f : rules.Pair → Bool) (s e t : ℕ) → passes f (slot_of s e t) ≡ (not (eqb e 0) && f (pair_of s e t))
unfolding passes
passes_slot f s e t = by (eqb e 0)
  where
    by : (b : Bool) → passes f (if b then free else live (pair_of s e t)) ≡ (not b && f (pair_of s e t))
    by true = refl
    by false = refl

free_slot_lem : (s e t : ℕ) → is_free (slot_of s e t) ≡ eqb e 0
unfolding is_free
free_slot_lem s e t = by (eqb e 0)
  where
    by : (b : Bool) → is_free (if b then free else live (pair_of s e t)) ≡ b
    by true = refl
    by false = refl

-- ---- the pair that passes a test, and the lowest free place

module _ {test : Slot rules.Pair → Bool} {value : List (Slot rules.Pair) → ℕ} (f : First test value) (ws : List ℕ) {says : ℕ → Bool → Type 0}
    (asks : (k : ℕ) (b : Bool) → says k b → b ≡ test (slot_of (row_in ws k).session (row_in ws k).elevated (row_in ws k).filtered)) where
  place_found : {r : Option ℕ} → FirstOf says pair_slots r → unwrap_or r pair_slots ≡ value (pairs_of ws)
  place_found t = first_index f free (pairs_of ws) (length_rows pair_at pair_words 0 pair_slots (pairs_in ws) []) (λ k b l s. asks k b s ∙ ap test (sym (place_read ws k l))) t

module _ (ws : List ℕ) {says : ℕ → Bool → Type 0} where
  pub pair_found : (f : rules.Pair → Bool) → ((k : ℕ) (b : Bool) → says k b → b ≡ (not (eqb (row_in ws k).elevated 0) && f (pair_of (row_in ws k).session (row_in ws k).elevated (row_in ws k).filtered)))
      → {r : Option ℕ} → FirstOf says pair_slots r → PairFound f ws r
  pair_found f asks t = record {
    index = place_found (first_found f) ws (λ k b s. asks k b s ∙ sym (passes_slot f (row_in ws k).session (row_in ws k).elevated (row_in ws k).filtered)) t;
    within = first_within t;
  }

  pub place_free : ((k : ℕ) (b : Bool) → says k b → b ≡ eqb (row_in ws k).elevated 0) → {r : Option ℕ} → FirstOf says pair_slots r → PlaceFree ws r
  place_free asks t = record {
    index = place_found first_free ws (λ k b s. asks k b s ∙ sym (free_slot_lem (row_in ws k).session (row_in ws k).elevated (row_in ws k).filtered)) t;
    within = first_within t;
  }

-- ---- a state that the words hold

row_pair : (q : Slot rules.Pair) → pair_of (get_or (slot_pair q) session_word 0) (get_or (slot_pair q) elevated_word 0) (get_or (slot_pair q) filtered_word 0) ≡ or_else rules.no_pair q
unfolding slot_pair pair_row or_else rules.no_pair
row_pair free = refl
row_pair (live p) = refl

module _ {ws : List ℕ} (σ : State) (i : ControlIn σ ws) where
  pub pair_count : length σ.pairs ≡ pair_slots
  unfolding sections
  pair_count = omega (arith, section_long i.words pair_section, length_flat slot_pair pair_words length_slot_pair σ.pairs)

  held_word : (place k : ℕ) → place < pair_slots → k < pair_words → get_or ws (pair_word_at place k) 0 ≡ get_or (slot_pair (get_or σ.pairs place free)) k 0
  unfolding sections
  held_word place k h l =
      section_word i.words pair_section (place * pair_words + k) 0 (omega arith)
      ∙ record_element pair_words place k (flat slot_pair σ.pairs) 0 l
      ∙ ap (λ (row : List ℕ). get_or row k 0) (record_flat slot_pair pair_words length_slot_pair place σ.pairs free (omega (arith, pair_count)))

  -- the pair at a place, or no pair
  pub row_held : {place : ℕ} {r : Pair} → place < pair_slots → RowGiven place ws r → pair_of r.session r.elevated r.filtered ≡ or_else rules.no_pair (get_or σ.pairs place free)
  row_held {place} h g =
      rw (g.session, g.elevated, g.filtered, held_word place session_word h (omega arith), held_word place elevated_word h (omega arith), held_word place filtered_word h (omega arith))
      (row_pair (get_or σ.pairs place free))

-- ---- storing

module _ (place : ℕ) (p : Pair) (h : place < pair_slots) where
  new_row : (q : Slot rules.Pair) → set (set (set (slot_pair q) session_word p.session) elevated_word p.elevated) filtered_word p.filtered ≡ slot_pair (live (pair_of p.session p.elevated p.filtered))
  unfolding slot_pair pair_row
  new_row free = refl
  new_row (live q) = refl

  pub pair_set : {ws ws₁ ws₂ ws₃ : List ℕ} → ws₁ ≡ set ws (pair_word_at place session_word) p.session → ws₂ ≡ set ws₁ (pair_word_at place elevated_word) p.elevated
      → ws₃ ≡ set ws₂ (pair_word_at place filtered_word) p.filtered → PairSet place p ws ws₃
  unfolding sections with_pairs
  pair_set {ws} {ws₃ = ws₃} a b c = record {
    control = λ σ i.
        let long = length_flat slot_pair pair_words length_slot_pair σ.pairs in
        let count = pair_count σ i in
        let own = own_row slot_pair pair_words length_slot_pair pair_section σ.pairs place free i.words refl (omega arith) (omega arith) (omega arith) (omega arith) in
        let r = row_stored filtered_word p.filtered (omega arith) (row_stored elevated_word p.elevated (omega arith) (row_stored session_word p.session (omega arith) own)) in
        record { words = rw (c, b, a) (rw (new_row (get_or σ.pairs place free), put_flat slot_pair pair_words length_slot_pair place (live (pair_of p.session p.elevated p.filtered)) σ.pairs (omega arith)) at r.words) };
  }
