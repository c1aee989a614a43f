-- Laws of rows and of the loops over them: what is left to do gives what the whole gives. Assumes nothing.
use Prim.Native.Nat.{ℕ, zero, suc, ◌+◌, ◌*◌, ◌-◌, ◌/◌, ◌%◌, ◌≤◌, ◌<◌}
use native.Mathlib.Numerals.{add-one}
use native.Mathlib.Omega.{arith}
use mathlib.Core.Path.{◌≡◌, refl, sym, ap, ap₂, ◌∙◌}
use mathlib.Core.Bool.{Bool, true, false, ◌&&◌, and-true, and_assoc}
use mathlib.Core.List.{List, [], ◌∷◌, ◌++◌}
use lib.Dec.{eqb, ltb}
use lib.ListN.{length, take, drop, get_or, length-drop, drop_of_length-le}
use lib.Seq.{drop-cons, take_all, drop-drop, get_or-drop}
use borrow.Author.Tests.{eq-eqb, eqb-true, ne_eqb, ltb-true, le-leb, lt-leb}
use Rattle.std.specs.Prelude.{if◌then◌else◌, cond, Some}
use Rattle.std.specs.Simd.{first_chunks}
use Rattle.table.specs.Table.{nth_record}
use Rattle.table.specs.Chunks.{chunk_at}
use Rattle.std.specs.Ordering.{is_some_and, is_lt, nat_cmp, partial_ordering_then}
use Rattle.std.specs.Cmp.Lexicographic.{slice_partial_cmp}
use Rattle.std.specs.declared.cmp.Ordering.TheVariants.{Less, Equal, Greater}
use Rattle.rules.specs.Basic.{is_zero, is_below, all}
use Rattle.rules.specs.Sid.{max_subs}
use Rattle.rules.specs.SidTable.{max_sids}
use Rattle.rules.specs.SidRows.{row_words, count_in, zero_from, is_row, less, rising_from, rising, row_at}
use Rattle.rules.proofs.Logic.{all_mem, get_or_mem}
use Rattle.sid.specs.Tests.{past_of, all_below, is_row_at}

-- ---- every word is below n

pub all_below_more : (n : ℕ) (xs : List ℕ) (x : ℕ) {ok r : Bool} → ok ≡ all (is_below n) xs → r ≡ (ok && ltb x n) → r ≡ all (is_below n) (xs ++ (x ∷ []))
unfolding is_below all
all_below_more n xs x e q = q ∙ ap (λ b. b && ltb x n) e ∙ sym (snoc xs)
  where
    snoc : (xs : List ℕ) → all (is_below n) (xs ++ (x ∷ [])) ≡ (all (is_below n) xs && ltb x n)
    snoc [] = and-true (ltb x n)
    snoc (y ∷ ys) = ap (λ b. ltb y n && b) (snoc ys) ∙ sym (and_assoc (ltb y n) (all (is_below n) ys) (ltb x n))

-- ---- two rows compared

-- the order of slices is that of rows
pub row_order : (a b : List ℕ) → length a ≡ length b → is_some_and is_lt (slice_partial_cmp (λ x y. Some (nat_cmp x y)) a b) ≡ less a b
unfolding less
row_order [] [] l = refl
row_order [] (y ∷ ys) l = absurd (omega arith)
row_order (x ∷ xs) [] l = absurd (omega arith)
row_order (x ∷ xs) (y ∷ ys) l = by (ltb x y) (eqb x y) refl refl (row_order xs ys (omega arith))
  where
    by : (p q : Bool) → ltb x y ≡ p → eqb x y ≡ q → is_some_and is_lt (slice_partial_cmp (λ x y. Some (nat_cmp x y)) xs ys) ≡ less xs ys
        → is_some_and is_lt (partial_ordering_then (Some (cond p Less (cond q Equal Greater))) (slice_partial_cmp (λ x y. Some (nat_cmp x y)) xs ys)) ≡ (if q then less xs ys else p)
    by true true h k e = absurd (omega (arith, ltb-true x y h, eqb-true x y k))
    by true false h k e = refl
    by false true h k e = e
    by false false h k e = refl

-- ---- a row of the table

-- row i of the rows as `as_chunks` gives them
pub row_chunk : (rows : List ℕ) (i : ℕ) {chunks : List (List ℕ)} → chunks ≡ first_chunks row_words (length rows / row_words) rows
    → length rows ≡ max_sids * row_words → i < max_sids → get_or chunks i [] ≡ row_at rows i
unfolding row_at nth_record
row_chunk rows i e l h = ap (λ (t : List (List ℕ)). get_or t i []) e ∙ chunk_at row_words [] (length rows / row_words) i rows (omega arith)

-- ---- a row

zero_edge : (n : ℕ) (ws : List ℕ) → n / 2 < length ws → (eqb (past_of (get_or ws (n / 2) 0) n) 0 && all is_zero (drop (suc (n / 2)) ws)) ≡ zero_from n ws
unfolding zero_from past_of all
zero_edge n [] h = absurd (omega arith)
zero_edge zero (w ∷ ws) h = refl
zero_edge (suc zero) (w ∷ ws) h = refl
zero_edge (suc (suc n)) (w ∷ ws) h =
    let d : suc (suc n) / 2 ≡ suc (n / 2) = omega arith in
    let m : suc (suc n) % 2 ≡ n % 2 = omega arith in
    rw (d, m) (zero_edge n ws (omega arith))

module _ (row : List ℕ) (l : length row ≡ row_words) where
  tail_at : (n i : ℕ) → get_or row (i + 1) 0 ≡ get_or (drop 1 row) i 0
  tail_at n i = by row
    where
      by : (r : List ℕ) → get_or r (i + 1) 0 ≡ get_or (drop 1 r) i 0
      by [] = refl
      by (w ∷ ws) = ap (λ (k : ℕ). get_or (w ∷ ws) k 0) (add-one i)

  tail_part : (n i : ℕ) → i < 8 → take (row_words - (i + 1 + 1)) (drop (i + 1 + 1) row) ≡ drop (suc i) (drop 1 row)
  tail_part n i h =
      take_all (row_words - (i + 1 + 1)) (drop (i + 1 + 1) row) (simp length-drop (omega arith))
      ∙ ap (λ (k : ℕ). drop k row) {x = i + 1 + 1} {y = 1 + suc i} (omega arith) ∙ sym (drop-drop (suc i) 1 row)

  pub revision_bad : (get_or row 0 0 % 256 ≡ 1 → ⊥) → false ≡ is_row row
  unfolding is_row
  revision_bad ne = rw (ne_eqb (get_or row 0 0 % 256) 1 ne)

  pub count_bad : get_or row 0 0 % 256 ≡ 1 → max_subs < get_or row 0 0 / 256 % 256 → false ≡ is_row row
  unfolding is_row count_in
  count_bad e h = rw (eq-eqb (get_or row 0 0 % 256) 1 e, lt-leb (get_or row 0 0 / 256 % 256) max_subs h)

  pub row_test_lem : (n p : ℕ) {z : Bool} → n ≡ get_or row 0 0 / 256 % 256 → get_or row 0 0 % 256 ≡ 1 → n ≤ max_subs → p ≡ past_of (get_or row (n / 2 + 1) 0) n
      → z ≡ all is_zero (take (row_words - (n / 2 + 1 + 1)) (drop (n / 2 + 1 + 1) row)) → (eqb p 0 && z) ≡ is_row row
  unfolding is_row count_in
  row_test_lem n p e f h q u =
      rw (eq-eqb (get_or row 0 0 % 256) 1 f, sym e, le-leb n max_subs h)
      (ap₂ (λ (x : ℕ) (b : Bool). eqb x 0 && b) (q ∙ ap (λ (x : ℕ). past_of x n) (tail_at n (n / 2))) (u ∙ ap (all is_zero) (tail_part n (n / 2) (omega arith)))
      ∙ zero_edge n (drop 1 row) (simp length-drop (omega arith)))

-- ---- the rows, one after the other

pub seen_more : (rows : List ℕ) (i : ℕ) {ok r : Bool} → ok ≡ all_below (is_row_at rows) i → r ≡ is_row (row_at rows i) → (ok && r) ≡ all_below (is_row_at rows) (i + 1)
unfolding all_below is_row_at
seen_more rows i t e = ap₂ ◌&&◌ t e ∙ sym (ap (all_below (is_row_at rows)) (add-one i))

-- ---- their order

pub below_at : (n : ℕ) (s : List ℕ) (i : ℕ) → all (is_below n) s ≡ true → i < length s → get_or s i 0 < n
unfolding is_below
below_at n s i h l = ltb-true (get_or s i 0) n (all_mem (is_below n) s h (get_or_mem s i 0 l))

-- the places behind the first, as the loop takes them
abbrev pub rest_of : List ℕ → List ℕ
rest_of places = take (length places - 1) (drop 1 places)

rest_is : (places : List ℕ) → rest_of places ≡ drop 1 places
rest_is places = take_all (length places - 1) (drop 1 places) (simp length-drop (omega arith))

pub next_inside : (places : List ℕ) (i : ℕ) → all (is_below max_sids) places ≡ true → i < length (rest_of places) → get_or (rest_of places) i 0 < max_sids
next_inside places i b h =
    let e : get_or (rest_of places) i 0 ≡ get_or places (1 + i) 0 = ap (λ (l : List ℕ). get_or l i 0) (rest_is places) ∙ get_or-drop 1 places i 0 in
    let l : get_or places (1 + i) 0 < max_sids = below_at max_sids places (1 + i) b (omega (arith, ap length (rest_is places), length-drop 1 places)) in
    omega arith

-- what the rest of the places, of which the one before is `at`, says of all
pub record Rises (places rows : List ℕ) (ok : Bool) (at i : ℕ) : Type 0 where
  pub inside : at < max_sids
  pub rest : (ok && rising_from (row_at rows) at (drop i (rest_of places))) ≡ rising (row_at rows) places

pub rises_none : (places rows : List ℕ) → 0 < length places → all (is_below max_sids) places ≡ true → Rises places rows true (get_or places 0 0) 0
unfolding rising
rises_none [] rows h b = absurd (omega arith)
rises_none (p ∷ ps) rows h b = record { inside = below_at max_sids (p ∷ ps) 0 b (omega arith); rest = ap (rising_from (row_at rows) p) (rest_is (p ∷ ps)) }

pub rises_more : (places rows : List ℕ) {ok r : Bool} {at i : ℕ} → all (is_below max_sids) places ≡ true → Rises places rows ok at i → i < length (rest_of places)
    → r ≡ less (row_at rows at) (row_at rows (get_or (rest_of places) i 0)) → Rises places rows (ok && r) (get_or (rest_of places) i 0) (i + 1)
unfolding rising_from
rises_more places rows {ok} {r} {at} {i} b t h e =
    let next : ℕ = get_or (rest_of places) i 0 in
    record {
      inside = next_inside places i b h;
      rest =
          ap (λ b. ok && b && rising_from (row_at rows) next (drop (i + 1) (rest_of places))) e
          ∙ and_assoc ok (less (row_at rows at) (row_at rows next)) (rising_from (row_at rows) next (drop (i + 1) (rest_of places)))
          ∙ ap (λ (k : ℕ). ok && (less (row_at rows at) (row_at rows next) && rising_from (row_at rows) next (drop k (rest_of places)))) (add-one i)
          ∙ ap (λ (l : List ℕ). ok && rising_from (row_at rows) at l) (sym (drop-cons (rest_of places) i 0 h))
          ∙ t.rest;
    }

pub rises_done : {places rows : List ℕ} {ok : Bool} {at i : ℕ} → Rises places rows ok at i → length (rest_of places) ≤ i → ok ≡ rising (row_at rows) places
unfolding rising_from
rises_done {places} {rows} {ok} {at} {i} t h =
    sym (and-true ok) ∙ ap (λ (l : List ℕ). ok && rising_from (row_at rows) at l) (sym (drop_of_length-le (rest_of places) {i = i} h)) ∙ t.rest
