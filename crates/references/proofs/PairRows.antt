-- The linked pairs: their tokens by the rows, whatever the DACLs are; a place's row; and what the rules say of all pairs. Assumes nothing.
use mathlib.Core.Path.{◌≡◌, refl, sym, ap, ap₂, ◌∙◌}
use mathlib.Core.Bool.{Bool, true, false, ◌&&◌, and-true, and-false, and_assoc, and_comm}
use mathlib.Core.List.{List, [], ◌∷◌, map}
use Prim.Native.Nat.{ℕ, zero, suc, ◌*◌, ◌≤◌, ◌<◌}
use native.Mathlib.Nat.{zero-mul, suc-mul, not-suc-le-zero}
use native.Mathlib.Omega.{arith}
use borrow.Author.Tests.{eq-eqb, ne_eqb}
use lib.Dec.{eqb}
use lib.ListN.{length, take, drop, get_or, replicate, length-drop, get_or-eq_default}
use lib.Seq.{take_all}
use Rattle.table.specs.Lists.{named_take}
use Rattle.table.specs.Table.{flat, nth_record}
use Rattle.table.specs.Rows.{read_rows, test_rows, length_rows, rows_at}
use Rattle.table.specs.Chunks.{rows_long, row_at}
use Rattle.std.specs.Prelude.{if◌then◌else◌}
use Rattle.std.specs.Simd.{first_chunks}
use Rattle.rules.specs.Basic.{all, distinct, same}
use Rattle.rules.specs.Token.{Token, max_dacl, full, limited, new_token}
use Rattle.rules.specs.Table.{Slot, free, live, is_live, or_else, lives, found}
use Rattle.rules.specs.Pair.{Pair}
use Rattle.rules.specs.Link.{is_of_session}
use Rattle.rules.specs.State.{token_slots, pair_slots, is_numbered, no_token, elevated_token, filtered_token}
use Rattle.rules.specs.Index.{found_index}
use Rattle.rules.specs.Valid.{session_of, pair_fits}
use Rattle.rules.specs.Head as Head
use Rattle.rules.specs.Memory.{low8, low32, slot_at, token_at, identity_at, pair_at, slot_pair, pair_row, token_words, pair_words, session_word, elevated_word, filtered_word}
use Rattle.rules.proofs.Logic.{not_both}
use Rattle.rules.proofs.Same.{same_refl}
use Rattle.rules.proofs.Rows.{length_slot_pair}
use Rattle.rules.proofs.Index.{found_at}
use Rattle.token.specs.Meaning.{slots_of}
use Rattle.token_rows.specs.Tests.{slot_test}
use Rattle.token_rows.proofs.Same.{same_append}
use Rattle.lists.proofs.Truth.{and_swap, all_cong, eqb_flip}
use Rattle.references.specs.Tests.{kept, rows_in, pair_column, token_named, fits_in, pair_test, pairs_test}
use Rattle.references.proofs.Lists.{all_lives}

-- ---- a token by its number

-- what does not look at a token's DACL is the same whatever the DACLs are
module _ {X : Type 0} (g : Token → X) (h : (row bs cs : List ℕ) → g (token_at row bs) ≡ g (token_at row cs)) (x : ℕ) where
  any_dacls : (n : ℕ) (ws bs cs : List ℕ)
      → g (or_else no_token (found (is_numbered x) (read_rows slot_at token_words max_dacl n ws bs))) ≡ g (or_else no_token (found (is_numbered x) (read_rows slot_at token_words max_dacl n ws cs)))
  unfolding read_rows found slot_at token_at is_numbered or_else
  any_dacls zero ws bs cs = refl
  any_dacls (suc n) ws bs cs = by (eqb (get_or row Head.number 0) 0) (any_dacls n (drop token_words ws) (drop max_dacl bs) (drop max_dacl cs))
    where
      row : List ℕ
      row = take token_words ws

      rest : List ℕ → List (Slot Token)
      rest ds = read_rows slot_at token_words max_dacl n (drop token_words ws) (drop max_dacl ds)

      pick : (b : Bool) → g (or_else no_token (found (is_numbered x) (rest bs))) ≡ g (or_else no_token (found (is_numbered x) (rest cs)))
          → g (or_else no_token (if b then live (token_at row (take max_dacl bs)) else found (is_numbered x) (rest bs)))
          ≡ g (or_else no_token (if b then live (token_at row (take max_dacl cs)) else found (is_numbered x) (rest cs)))
      pick true ih = h row (take max_dacl bs) (take max_dacl cs)
      pick false ih = ih

      by : (b : Bool) → g (or_else no_token (found (is_numbered x) (rest bs))) ≡ g (or_else no_token (found (is_numbered x) (rest cs)))
          → g (or_else no_token (found (is_numbered x) ((if b then free else live (token_at row (take max_dacl bs))) ∷ rest bs)))
          ≡ g (or_else no_token (found (is_numbered x) ((if b then free else live (token_at row (take max_dacl cs))) ∷ rest cs)))
      by true ih = ih
      by false ih = pick (eqb (get_or row Head.number 0) x) ih

-- a pair's tokens among those with their DACLs
abbrev pub fits_with : List ℕ → List ℕ → Pair → Bool
fits_with ts ds p = pair_fits p.session (or_else no_token (found (is_numbered p.elevated) (slots_of ts ds))) (or_else no_token (found (is_numbered p.filtered) (slots_of ts ds)))

elevated_any : (s : ℕ) (f : Token) (row bs cs : List ℕ) → pair_fits s (token_at row bs) f ≡ pair_fits s (token_at row cs) f
unfolding pair_fits is_of_session token_at
elevated_any s f row bs cs = refl

filtered_any : (s : ℕ) (e : Token) (row bs cs : List ℕ) → pair_fits s e (token_at row bs) ≡ pair_fits s e (token_at row cs)
unfolding pair_fits is_of_session token_at
filtered_any s e row bs cs = refl

fits_any : (ts ds : List ℕ) (p : Pair) → fits_with ts ds p ≡ fits_in ts p
fits_any ts ds p =
    any_dacls (λ t. pair_fits p.session t (or_else no_token (found (is_numbered p.filtered) (slots_of ts ds)))) (elevated_any p.session _) p.elevated token_slots ts ds []
    ∙ any_dacls (λ t. pair_fits p.session (token_named ts p.elevated) t) (filtered_any p.session _) p.filtered token_slots ts ds []

-- ---- the slot where a token is found

module _ {A : Type 0} where
  found_live : (f : A → Bool) (ps : List (Slot A)) → found_index f ps < length ps → is_live (found f ps) ≡ true
  unfolding found_index found is_live
  found_live f [] h = absurd (not-suc-le-zero h)
  found_live f (free ∷ ps) h = found_live f ps (omega arith)
  found_live f (live a ∷ ps) h = pick (f a) h (found_live f ps)
    where
      pick : (b : Bool) → (if b then zero else suc (found_index f ps)) < suc (length ps)
          → (found_index f ps < length ps → is_live (found f ps) ≡ true) → is_live (if b then live a else found f ps) ≡ true
      pick true h rest = refl
      pick false h rest = rest (omega arith)

  live_or : (z : A) (b : Bool) {a : A} {p : Slot A} → p ≡ (if b then free else live a) → is_live p ≡ true → or_else z p ≡ a
  unfolding is_live or_else
  live_or z true e h = absurd (not_both h (ap is_live e))
  live_or z false e h = ap (or_else z) e

module _ (ts : List ℕ) (x : ℕ) {i : ℕ} (at : (ds : List ℕ) → i ≡ found_index (is_numbered x) (slots_of ts ds)) where
  long : length (slots_of ts []) ≡ token_slots
  long = length_rows slot_at token_words max_dacl token_slots ts []

  here : found (is_numbered x) (slots_of ts []) ≡ get_or (slots_of ts []) i free
  here = found_at (is_numbered x) (slots_of ts []) ∙ ap (λ (k : ℕ). get_or (slots_of ts []) k free) (sym (at []))

  named_row : i < token_slots → token_named ts x ≡ token_at (nth_record token_words i ts) (nth_record max_dacl i [])
  unfolding slot_at
  named_row h =
      let w = at [] in
      let n = long in
      live_or no_token (eqb (get_or (nth_record token_words i ts) Head.number 0) 0) (here ∙ rows_at slot_at token_words max_dacl free token_slots i ts [] h)
      (found_live (is_numbered x) (slots_of ts []) (omega arith))

  named_none : token_slots ≤ i → token_named ts x ≡ no_token
  unfolding or_else
  named_none h =
      let n = long in
      ap (or_else no_token) (here ∙ get_or-eq_default (slots_of ts []) free (omega arith))

-- with what the code has at each return

pub at_rows : (s : ℕ) (e f : List ℕ) {a b : Bool} → a ≡ is_of_session s (token_at e []) → b ≡ is_of_session s (token_at f [])
    → (eqb (low8 (get_or e Head.elevation 0)) full && a && eqb (low8 (get_or f Head.elevation 0)) limited && b && eqb (low32 (get_or e Head.user 0)) (low32 (get_or f Head.user 0)))
    ≡ pair_fits s (token_at e []) (token_at f [])
unfolding pair_fits token_at identity_at
at_rows s e f p q = cc

module _ (ts : List ℕ) (s x y : ℕ) where
  pub no_elevated : ((ds : List ℕ) → token_slots ≡ found_index (is_numbered x) (slots_of ts ds)) → false ≡ pair_fits s (token_named ts x) (token_named ts y)
  unfolding pair_fits no_token new_token
  no_elevated at = sym (ap (λ t. pair_fits s t (token_named ts y)) (named_none ts x at (omega arith)))

  pub no_filtered : ((ds : List ℕ) → token_slots ≡ found_index (is_numbered y) (slots_of ts ds)) → false ≡ pair_fits s (token_named ts x) (token_named ts y)
  unfolding pair_fits no_token new_token
  no_filtered at = sym (ap (λ t. pair_fits s (token_named ts x) t) (named_none ts y at (omega arith)) ∙ simp and-false)

  pub at_tokens : {rows : List (List ℕ)} {i j : ℕ} {r : Bool} → rows ≡ first_chunks token_words token_slots ts
      → ((ds : List ℕ) → i ≡ found_index (is_numbered x) (slots_of ts ds)) → ((ds : List ℕ) → j ≡ found_index (is_numbered y) (slots_of ts ds)) → i < token_slots → j < token_slots
      → r ≡ pair_fits s (token_at (get_or rows i []) []) (token_at (get_or rows j []) []) → r ≡ pair_fits s (token_named ts x) (token_named ts y)
  at_tokens {rows} {i} {j} g at from h l e =
      let n : length rows ≡ token_slots = rows_long token_words token_slots ts g in
      e
      ∙ ap₂ (λ v w. pair_fits s (token_at v []) (token_at w [])) (row_at token_words token_slots ts g [] {i = i} (omega arith)) (row_at token_words token_slots ts g [] {i = j} (omega arith))
      ∙ elevated_any s _ (nth_record token_words i ts) [] (nth_record max_dacl i [])
      ∙ filtered_any s _ (nth_record token_words j ts) [] (nth_record max_dacl j [])
      ∙ sym (ap₂ (pair_fits s) (named_row ts x at h) (named_row ts y from l))

-- ---- a place's row

module _ (ts row : List ℕ) (l : length row ≡ pair_words) where
  named : row ≡ (get_or row session_word 0 ∷ get_or row elevated_word 0 ∷ get_or row filtered_word 0 ∷ [])
  named = sym (named_take pair_words 0 row (omega arith) ∙ take_all pair_words row (omega arith))

  pub at_free : get_or row elevated_word 0 ≡ 0 → (eqb (get_or row session_word 0) 0 && eqb (get_or row filtered_word 0) 0) ≡ pair_test ts row
  unfolding pair_test pair_at slot_pair slot_test same
  at_free e =
      let zeros : same (replicate pair_words 0) row ≡ (eqb (get_or row session_word 0) 0 && eqb (get_or row filtered_word 0) 0) =
      ap (same (replicate pair_words 0)) named
      ∙ rw (eqb_flip 0 (get_or row session_word 0), eqb_flip 0 (get_or row elevated_word 0), eqb_flip 0 (get_or row filtered_word 0), eq-eqb (get_or row elevated_word 0) 0 e, and-true) in
      sym (rw (eq-eqb (get_or row elevated_word 0) 0 e) (and-true (same (replicate pair_words 0) row) ∙ zeros))

  pub at_pair : {r : Bool} → (get_or row elevated_word 0 ≡ 0 → ⊥)
      → r ≡ pair_fits (get_or row session_word 0) (token_named ts (get_or row elevated_word 0)) (token_named ts (get_or row filtered_word 0)) → r ≡ pair_test ts row
  unfolding pair_test pair_at slot_pair pair_row slot_test
  at_pair n e =
      let written : same (get_or row session_word 0 ∷ get_or row elevated_word 0 ∷ get_or row filtered_word 0 ∷ []) row ≡ true =
      ap (same (get_or row session_word 0 ∷ get_or row elevated_word 0 ∷ get_or row filtered_word 0 ∷ [])) named ∙ same_refl _ in
      e ∙ sym (rw (ne_eqb (get_or row elevated_word 0) 0 n, written))

-- ---- all pairs

pair_rows_lem : (ts : List ℕ) (n : ℕ) (ws : List ℕ) → length ws ≡ n * pair_words
    → (same (flat slot_pair (read_rows pair_at pair_words 0 n ws [])) ws && all (slot_test (fits_in ts)) (read_rows pair_at pair_words 0 n ws []))
    ≡ test_rows {B = ℕ} (λ row none. pair_test ts row) pair_words 0 n ws []
unfolding read_rows test_rows flat same all pair_test
pair_rows_lem ts zero [] l = refl
pair_rows_lem ts zero (w ∷ ws) l = absurd (omega (arith, zero-mul pair_words))
pair_rows_lem ts (suc n) ws l =
    let p : Slot Pair = pair_at (take pair_words ws) [] in
    let ps : List (Slot Pair) = read_rows pair_at pair_words 0 n (drop pair_words ws) [] in
    ap (λ b. b && (slot_test (fits_in ts) p && all (slot_test (fits_in ts)) ps)) (same_append pair_words (slot_pair p) (flat slot_pair ps) ws (length_slot_pair p))
    ∙ and_swap (same (slot_pair p) (take pair_words ws)) (same (flat slot_pair ps) (drop pair_words ws)) (slot_test (fits_in ts) p) (all (slot_test (fits_in ts)) ps)
    ∙ ap (λ b. same (slot_pair p) (take pair_words ws) && slot_test (fits_in ts) p && b)
    (pair_rows_lem ts n (drop pair_words ws) (length-drop pair_words ws ∙ omega (arith, l, suc-mul n pair_words)))

-- word k of the live pairs' rows is what g gives of the pairs
live_pairs : (g : Pair → ℕ) (k : ℕ) → ((row : List ℕ) → g (record { session = get_or row session_word 0; elevated = get_or row elevated_word 0; filtered = get_or row filtered_word 0 }) ≡ get_or row k 0)
    → (n : ℕ) (ws : List ℕ) → map g (lives (read_rows pair_at pair_words 0 n ws [])) ≡ kept (λ row. get_or row elevated_word 0) (λ row. get_or row k 0) (rows_in pair_words n ws)
unfolding read_rows kept lives pair_at
live_pairs g k e zero ws = refl
live_pairs g k e (suc n) ws = by (eqb (get_or row elevated_word 0) 0) (live_pairs g k e n (drop pair_words ws))
  where
    row : List ℕ
    row = take pair_words ws

    ps : List (Slot Pair)
    ps = read_rows pair_at pair_words 0 n (drop pair_words ws) []

    ks : List ℕ
    ks = kept (λ row. get_or row elevated_word 0) (λ row. get_or row k 0) (rows_in pair_words n (drop pair_words ws))

    by : (b : Bool) → map g (lives ps) ≡ ks
        → map g (lives ((if b then free else live (record { session = get_or row session_word 0; elevated = get_or row elevated_word 0; filtered = get_or row filtered_word 0 })) ∷ ps))
        ≡ (if b then ks else get_or row k 0 ∷ ks)
    by true ih = ih
    by false ih = ap₂ (λ x xs. x ∷ xs) (e row) ih

pub elevated_tokens : (ws : List ℕ) → map elevated_token (lives (read_rows pair_at pair_words 0 pair_slots ws [])) ≡ pair_column elevated_word ws
unfolding elevated_token
elevated_tokens ws = live_pairs elevated_token elevated_word (λ row. refl) pair_slots ws

pub filtered_tokens : (ws : List ℕ) → map filtered_token (lives (read_rows pair_at pair_words 0 pair_slots ws [])) ≡ pair_column filtered_word ws
unfolding filtered_token
filtered_tokens ws = live_pairs filtered_token filtered_word (λ row. refl) pair_slots ws

-- as the rules say it, of tokens with their DACLs
pub pairs_tested : (ts ds ws : List ℕ) → length ws ≡ pair_slots * pair_words
    → (same (flat slot_pair (read_rows pair_at pair_words 0 pair_slots ws [])) ws && (distinct (map session_of (lives (read_rows pair_at pair_words 0 pair_slots ws []))) && all (fits_with ts ds) (lives (read_rows pair_at pair_words 0 pair_slots ws []))))
    ≡ pairs_test ts ws
unfolding pairs_test session_of
pairs_tested ts ds ws l =
    let ps : List (Slot Pair) = read_rows pair_at pair_words 0 pair_slots ws [] in
    let fit : all (fits_with ts ds) (lives ps) ≡ all (slot_test (fits_in ts)) ps = all_cong _ _ (fits_any ts ds) (lives ps) ∙ all_lives (fits_in ts) ps in
    ap (λ b. same (flat slot_pair ps) ws && b) (ap₂ (λ a b. a && b) (ap distinct (live_pairs session_of session_word (λ row. refl) pair_slots ws)) fit ∙ and_comm (distinct (pair_column session_word ws)) _)
    ∙ sym (and_assoc (same (flat slot_pair ps) ws) (all (slot_test (fits_in ts)) ps) (distinct (pair_column session_word ws)))
    ∙ ap (λ b. b && distinct (pair_column session_word ws)) (pair_rows_lem ts pair_slots ws l)
