-- The test that the code runs passes exactly the words that are valid. Assumes nothing.
use Prim.Native.Nat.{ℕ, zero, suc, ◌+◌, ◌*◌, ◌%◌, ◌≤◌, ◌<◌, ◌^◌}
use native.Mathlib.Omega.{arith}
use mathlib.Core.Path.{◌≡◌, refl, sym, ap, ap₂, ◌∙◌}
use mathlib.Core.Bool.{Bool, true, false, ◌&&◌}
use mathlib.Core.Logic.{⊎_elim}
use mathlib.Core.List.{List, [], ◌∷◌, ◌++◌}
use lib.Dec.{eqb, ltb}
use lib.ListN.{length, take, drop, get_or, length-drop, length-take}
use lib.Seq.{get_or-drop, get_or-take}
use borrow.Author.Tests.{eq-eqb, ne_eqb, eqb-true, ltb-true, le-ltb, ltb-false}
use Rattle.table.specs.Lists.{pad}
use Rattle.table.specs.Table.{flat}
use Rattle.std.specs.Prelude.{if◌then◌else◌}
use Rattle.rules.specs.Basic.{word32, is_zero, is_below, all, same}
use Rattle.rules.specs.Sid.{Sid, no_sid, valid_sid, to_bytes, from_bytes}
use Rattle.rules.specs.SidTable.{max_sids, nt_sid, starts_right, different, sids_valid}
use Rattle.rules.specs.SidRows.{row_words, pairs, halves, sid_row, count_in, row_sid, is_row, rising, order, row_at, rows_at, sid_words, ordered, write_sids, read_sids, sids_at, sid_words_valid}
use Rattle.rules.specs.Growth.{Mem}
use Rattle.rules.proofs.Logic.{and_l, and_r, and_i, not_both, all_mem, mem_all}
use Rattle.rules.proofs.Numbers.{below_or}
use Rattle.rules.proofs.Same.{same_refl}
use Rattle.rules.proofs.Sids.{is_below_lem, all_64, all_take, all_drop, row_is, row_form}
use Rattle.rules.proofs.SidOrder.{Below, order_below, rises_different, rises_order}
use Rattle.rules.proofs.SidNumbers.{apart_different, all_by, sids_few, sids_start, sid_at_lem, valid_sids, two_sids, start_two, few_fit}
use Rattle.rules.proofs.SidWords.{pad_front, pad_behind, length_rows, length_read, read_at, rows_back, length_at, rows_of, places_of, length_rows_of, length_places_of, length_sids, count_in_lem, places_in, rows_in_lem, split, rows_fit, row_of, places_rise, places_front, words_written, words_valid}
use Rattle.lists.proofs.Truth.{same_truth}
use Rattle.sid.specs.Tests.{all_below, is_row_at, nt_header, starts_test, table_test, count_test, words_test}

pub all_below_at : (f : ℕ → Bool) (n : ℕ) → all_below f n ≡ true → (i : ℕ) → i < n → f i ≡ true
unfolding all_below
all_below_at f zero h i l = absurd (omega arith)
all_below_at f (suc n) h i l = by (eqb i n) refl (all_below_at f n (and_l (all_below f n) (f n) h) i)
  where
    by : (b : Bool) → eqb i n ≡ b → (i < n → f i ≡ true) → f i ≡ true
    by true e g = ap f (eqb-true i n e) ∙ and_r (all_below f n) (f n) h
    by false e g = g (⊎_elim (λ k. k) (λ k. absurd (not_both (eq-eqb i n (omega arith)) e)) (below_or i n))

pub at_all_below : (f : ℕ → Bool) (n : ℕ) → ((i : ℕ) → i < n → f i ≡ true) → all_below f n ≡ true
unfolding all_below
at_all_below f zero h = refl
at_all_below f (suc n) h = and_i (at_all_below f n (λ i l. h i (omega arith))) (h n (omega arith))

-- ---- what passes the test is valid

module _ (n : ℕ) (places rows : List ℕ) (pl : length places ≡ max_sids) (rl : length rows ≡ max_sids * row_words) (wide : all (is_below (2 ^ 64)) rows ≡ true)
    (low : 2 ≤ n) (high : n ≤ max_sids) (below : all (is_below n) (take n places) ≡ true)
    (are : all_below (is_row_at rows) n ≡ true) (rises : rising (row_at rows) (take n places) ≡ true)
    (zp : all is_zero (drop n places) ≡ true) (zr : all is_zero (drop (n * row_words) rows) ≡ true) where
  row_sid_lem : (i : ℕ) → i < n → (sid_row (row_sid (row_at rows i)) ≡ row_at rows i) × (valid_sid (row_sid (row_at rows i)) ≡ true)
  unfolding is_row_at row_at
  row_sid_lem i l =
      row_form (row_at rows i) (length_at rows i rl (omega arith)) (all_take (is_below (2 ^ 64)) row_words (drop (i * row_words) rows) (all_drop (is_below (2 ^ 64)) (i * row_words) rows wide)) (all_below_at (is_row_at rows) n are i l)

  size : length (take n places) ≡ n
  size = simp length-take (omega arith)

  under : Below n (take n places)
  unfolding is_below
  under x m = ltb-true x n (all_mem (is_below n) (take n places) below m)

  apart : (i j : ℕ) → i < n → j < n → row_at rows i ≡ row_at rows j → i ≡ j
  apart = rises_different (row_at rows) row_words max_sids (λ i l. length_at rows i rl l) n high (take n places) size under rises

  -- written as the table is
  pub passes_written : write_sids (read_sids n rows) ≡ n ∷ (places ++ rows)
  unfolding write_sids ordered
  passes_written =
      let back : pad (max_sids * row_words) (flat sid_row (read_sids n rows)) ≡ rows =
      ap (pad (max_sids * row_words)) (rows_back n rows (λ i l. (row_sid_lem i l).0)) ∙ pad_front (max_sids * row_words) (n * row_words) rows rl (omega arith) zr in
      let ord : pad max_sids (order (row_at rows) n) ≡ places =
      ap (pad max_sids) (sym (rises_order (row_at rows) row_words max_sids (λ i l. length_at rows i rl l) n high (take n places) size under rises)) ∙ pad_front max_sids n places pl high zp in
      ap₂ (λ (k : ℕ) (r : List ℕ). k ∷ (pad max_sids (order (row_at r) k) ++ r)) (length_read n rows) back
      ∙ ap (λ (l : List ℕ). n ∷ (l ++ rows)) ord

  sids_valid_lem : all valid_sid (read_sids n rows) ≡ true
  sids_valid_lem = all_by valid_sid no_sid (read_sids n rows) (λ i l. let h : i < n = omega (arith, length_read n rows) in ap valid_sid (read_at n rows no_sid i h) ∙ (row_sid_lem i h).1)

  sids_different : different (read_sids n rows) ≡ true
  sids_different = apart_different no_sid (read_sids n rows) (λ i j l k e.
      let hi : i < n = omega (arith, length_read n rows) in
      let hj : j < n = omega (arith, length_read n rows) in
      apart i j hi hj (sym (row_sid_lem i hi).0 ∙ ap sid_row (sym (read_at n rows no_sid i hi) ∙ e ∙ read_at n rows no_sid j hj) ∙ (row_sid_lem j hj).0))

-- ---- S-1-5-7 and S-1-5-18 at the start

nt_row : (row : List ℕ) (k : ℕ) → 1 < length row → k < word32 → get_or row 0 0 ≡ nt_header → get_or row 1 0 ≡ k → row_sid row ≡ nt_sid k
unfolding row_sid count_in halves to_bytes nt_sid
nt_row [] k l h e f = absurd (omega arith)
nt_row (a ∷ []) k l h e f = absurd (omega arith)
nt_row (a ∷ b ∷ t) k l h e f =
    ap (λ (x : ℕ). row_sid (x ∷ b ∷ t)) e ∙ ap (λ (x : ℕ). record { authority = 0 ∷ 0 ∷ 0 ∷ 0 ∷ 0 ∷ 5 ∷ []; subs = x ∷ [] }) {x = b % word32} {y = k} (omega arith)

module _ (rows : List ℕ) (rl : length rows ≡ max_sids * row_words) where
  at_word : (i j : ℕ) → j < row_words → get_or (row_at rows i) j 0 ≡ get_or rows (i * row_words + j) 0
  unfolding row_at
  at_word i j h = get_or-take row_words (drop (i * row_words) rows) j 0 h ∙ get_or-drop (i * row_words) rows j 0

  pub starts_right_lem : (n : ℕ) → 2 ≤ n → starts_test rows ≡ true → starts_right (read_sids n rows) ≡ true
  unfolding starts_test
  starts_right_lem n l h =
      let p = and_l (eqb (get_or rows 0 0) nt_header && eqb (get_or rows 1 0) 7 && eqb (get_or rows 9 0) nt_header) (eqb (get_or rows 10 0) 18) h in
      let q = and_l (eqb (get_or rows 0 0) nt_header && eqb (get_or rows 1 0) 7) (eqb (get_or rows 9 0) nt_header) p in
      first n l
      (nt_row (row_at rows 0) 7 (omega (arith, length_at rows 0 rl (omega arith))) (omega arith)
      (at_word 0 0 (omega arith) ∙ eqb-true (get_or rows 0 0) nt_header (and_l (eqb (get_or rows 0 0) nt_header) (eqb (get_or rows 1 0) 7) q))
      (at_word 0 1 (omega arith) ∙ eqb-true (get_or rows 1 0) 7 (and_r (eqb (get_or rows 0 0) nt_header) (eqb (get_or rows 1 0) 7) q)))
      (nt_row (row_at rows 1) 18 (omega (arith, length_at rows 1 rl (omega arith))) (omega arith)
      (at_word 1 0 (omega arith) ∙ eqb-true (get_or rows 9 0) nt_header (and_r (eqb (get_or rows 0 0) nt_header && eqb (get_or rows 1 0) 7) (eqb (get_or rows 9 0) nt_header) p))
      (at_word 1 1 (omega arith) ∙ eqb-true (get_or rows 10 0) 18 (and_r (eqb (get_or rows 0 0) nt_header && eqb (get_or rows 1 0) 7 && eqb (get_or rows 9 0) nt_header) (eqb (get_or rows 10 0) 18) h)))
    where
      first : (m : ℕ) → 2 ≤ m → row_sid (row_at rows 0) ≡ nt_sid 7 → row_sid (row_at rows 1) ≡ nt_sid 18 → starts_right (read_sids m rows) ≡ true
      first m k a b = start_two (read_sids m rows) (omega (arith, length_read m rows)) (read_at m rows no_sid 0 (omega arith) ∙ a) (read_at m rows no_sid 1 (omega arith) ∙ b)

  -- the other way
  pub right_starts : row_at rows 0 ≡ sid_row (nt_sid 7) → row_at rows 1 ≡ sid_row (nt_sid 18) → starts_test rows ≡ true
  unfolding starts_test sid_row nt_sid pairs from_bytes
  right_starts a b =
      and_i (and_i (and_i
      (eq-eqb (get_or rows 0 0) nt_header (sym (at_word 0 0 (omega arith)) ∙ ap (λ (r : List ℕ). get_or r 0 0) a))
      (eq-eqb (get_or rows 1 0) 7 (sym (at_word 0 1 (omega arith)) ∙ ap (λ (r : List ℕ). get_or r 1 0) a)))
      (eq-eqb (get_or rows 9 0) nt_header (sym (at_word 1 0 (omega arith)) ∙ ap (λ (r : List ℕ). get_or r 0 0) b)))
      (eq-eqb (get_or rows 10 0) 18 (sym (at_word 1 1 (omega arith)) ∙ ap (λ (r : List ℕ). get_or r 1 0) b))

-- ---- what is written of a valid table passes

-- ---- what is written of a valid table passes

module _ (ss : List Sid) (v : sids_valid ss ≡ true) where
  table_passes : table_test (length ss) (pad max_sids (places_of ss)) (rows_of ss) ≡ true
  unfolding table_test is_row_at
  table_passes =
      and_i (and_i (and_i (and_i
      (at_all_below (is_row_at (rows_of ss)) (length ss) (λ i l. ap is_row (row_of ss v i l) ∙ row_is (get_or ss i no_sid) (sid_at_lem ss v i l)))
      (ap (rising (row_at (rows_of ss))) (places_front ss v) ∙ places_rise ss v))
      (ap (λ (k : ℕ). all is_zero (drop k (pad max_sids (places_of ss)))) (sym (length_places_of ss)) ∙ pad_behind max_sids (places_of ss) (omega (arith, sids_few ss v, length_places_of ss))))
      (ap (λ (k : ℕ). all is_zero (drop k (rows_of ss))) (sym (length_rows ss)) ∙ pad_behind (max_sids * row_words) (flat sid_row ss) (rows_fit ss v)))
      (right_starts (rows_of ss) (length_rows_of ss)
      (row_of ss v 0 (omega (arith, two_sids ss (sids_start ss v))) ∙ ap sid_row (two_sids ss (sids_start ss v)).1)
      (row_of ss v 1 (omega (arith, two_sids ss (sids_start ss v))) ∙ ap sid_row (two_sids ss (sids_start ss v)).2))

  count_passes : count_test (length ss) (pad max_sids (places_of ss)) (rows_of ss) ≡ true
  unfolding count_test
  count_passes =
      rw (
        le-ltb (length ss) 2 (two_sids ss (sids_start ss v)).0,
        le-ltb max_sids (length ss) (sids_few ss v),
        ap (all (is_below (length ss))) (places_front ss v) ∙ mem_all (is_below (length ss)) (places_of ss) under,
      )
      table_passes
    where
      under : (i : ℕ) → Mem i (places_of ss) → is_below (length ss) i ≡ true
      under i m = is_below_lem i (length ss) (order_below (row_at (rows_of ss)) (length ss) i m)

  pub written_passes : words_test (write_sids ss) ≡ true
  unfolding words_test
  written_passes = rw (eq-eqb (length (write_sids ss)) sid_words (length_sids ss), count_in_lem ss, places_in ss, rows_in_lem ss) count_passes

-- ---- exactly

if_then : (b x : Bool) → (if b then x else false) ≡ true → (b ≡ true) × (x ≡ true)
if_then true x h = (refl, h)
if_then false x h = absurd (not_both h refl)

if_else : (b x : Bool) → (if b then false else x) ≡ true → (b ≡ false) × (x ≡ true)
if_else true x h = absurd (not_both h refl)
if_else false x h = (refl, h)

passes_valid : (ws : List ℕ) → all (is_below (2 ^ 64)) ws ≡ true → words_test ws ≡ true → sid_words_valid ws ≡ true
unfolding words_test count_test table_test sid_words_valid sids_at
passes_valid ws wide h =
    let n : ℕ = get_or ws 0 0 in
    let places : List ℕ = take max_sids (drop 1 ws) in
    let rows : List ℕ = drop rows_at ws in
    let a = if_then (eqb (length ws) sid_words) _ h in
    let b = if_else (ltb n 2) _ a.1 in
    let c = if_else (ltb max_sids n) _ b.1 in
    let d = if_then (all (is_below n) (take n places)) _ c.1 in
    let size : length ws ≡ sid_words = eqb-true (length ws) sid_words a.0 in
    let low : 2 ≤ n = ltb-false n 2 b.0 in
    let high : n ≤ max_sids = ltb-false max_sids n c.0 in
    let t4 = and_r (all_below (is_row_at rows) n && rising (row_at rows) (take n places) && all is_zero (drop n places) && all is_zero (drop (n * row_words) rows)) (starts_test rows) d.1 in
    let p4 = and_l (all_below (is_row_at rows) n && rising (row_at rows) (take n places) && all is_zero (drop n places) && all is_zero (drop (n * row_words) rows)) (starts_test rows) d.1 in
    let t3 = and_r (all_below (is_row_at rows) n && rising (row_at rows) (take n places) && all is_zero (drop n places)) (all is_zero (drop (n * row_words) rows)) p4 in
    let p3 = and_l (all_below (is_row_at rows) n && rising (row_at rows) (take n places) && all is_zero (drop n places)) (all is_zero (drop (n * row_words) rows)) p4 in
    let t2 = and_r (all_below (is_row_at rows) n && rising (row_at rows) (take n places)) (all is_zero (drop n places)) p3 in
    let p2 = and_l (all_below (is_row_at rows) n && rising (row_at rows) (take n places)) (all is_zero (drop n places)) p3 in
    let t1 = and_r (all_below (is_row_at rows) n) (rising (row_at rows) (take n places)) p2 in
    let t0 = and_l (all_below (is_row_at rows) n) (rising (row_at rows) (take n places)) p2 in
    let pl : length places ≡ max_sids = simp (length-take, length-drop) (omega arith) in
    let rl : length rows ≡ max_sids * row_words = simp length-drop (omega arith) in
    let w : all (is_below (2 ^ 64)) rows ≡ true = all_drop (is_below (2 ^ 64)) rows_at ws wide in
    and_i (and_i a.0
    (ap (λ (x : List ℕ). same x ws) (passes_written n places rows pl rl w low high d.0 t0 t1 t2 t3 ∙ sym (split ws size)) ∙ same_refl ws))
    (valid_sids (read_sids n rows) (few_fit (read_sids n rows) (omega (arith, length_read n rows))) (starts_right_lem rows rl n low t4)
    (sids_valid_lem n places rows pl rl w low high d.0 t0 t1 t2 t3)
    (sids_different n places rows pl rl w low high d.0 t0 t1 t2 t3))

valid_passes : (ws : List ℕ) → sid_words_valid ws ≡ true → words_test ws ≡ true
valid_passes ws h = ap words_test (sym (words_written ws h)) ∙ written_passes (sids_at ws) (words_valid ws h)

-- for any words
pub exact : (ws : List ℕ) → all (is_below (2 ^ 64)) ws ≡ true → words_test ws ≡ sid_words_valid ws
exact ws wide = same_truth (words_test ws) (sid_words_valid ws) (passes_valid ws wide) (valid_passes ws)

-- as the code has it: any size; every word of a slice is below 2^64
pub size_wrong : (ws : List ℕ) → (length ws ≡ sid_words → ⊥) → false ≡ sid_words_valid ws
unfolding sid_words_valid
size_wrong ws ne = rw (ne_eqb (length ws) sid_words ne)

pub tested_valid : (ws : List ℕ) → ((i : ℕ) → get_or ws i 0 < 2 ^ 64) → {r : Bool} → r ≡ words_test ws → r ≡ sid_words_valid ws
tested_valid ws h e = e ∙ exact ws (all_64 ws h)
