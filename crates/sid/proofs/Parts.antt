-- The test of all the words, from what its calls give on lent parts of them. Assumes nothing.
use Prim.Native.Nat.{ℕ, zero, suc, ◌+◌, ◌*◌, ◌-◌, ◌≤◌, ◌<◌}
use native.Mathlib.Omega.{arith}
use mathlib.Core.Path.{◌≡◌, refl, sym, ap, ap₂, ◌∙◌}
use mathlib.Core.Bool.{Bool, true, false, ◌&&◌, not}
use mathlib.Core.List.{List, [], ◌∷◌}
use lib.Dec.{ltb}
use lib.ListN.{length, take, drop, get_or, length-drop, length-take}
use lib.Seq.{take_all, drop-drop, take-take}
use borrow.Author.Tests.{eq-eqb, ltb-true, not-true, not-false, lt-ltb, le-ltb}
use Rattle.rules.specs.Basic.{is_zero, is_below, all}
use Rattle.rules.specs.SidTable.{max_sids}
use Rattle.rules.specs.SidRows.{row_words, rising, row_at, rows_at, sid_words}
use Rattle.rules.proofs.Logic.{and_l, and_r, and_i}
use Rattle.sid.specs.Tests.{all_below, is_row_at, starts_test, table_test, count_test, words_test}

-- numbers below n are below more
pub below_wider : (n m : ℕ) (xs : List ℕ) → n ≤ m → all (is_below n) xs ≡ true → all (is_below m) xs ≡ true
unfolding all is_below
below_wider n m [] l h = refl
below_wider n m (x ∷ xs) l h = and_i (lt-ltb x m (omega (arith, ltb-true x n (and_l (ltb x n) (all (is_below n) xs) h)))) (below_wider n m xs l (and_r (ltb x n) (all (is_below n) xs) h))

drop_take : (n m : ℕ) (xs : List ℕ) → drop n (take m xs) ≡ take (m - n) (drop n xs)
drop_take zero m xs = ap (λ (k : ℕ). take k xs) {x = m} {y = m - 0} (omega arith)
drop_take (suc n) zero xs = ap (λ (k : ℕ). take k (drop (suc n) xs)) {x = 0} {y = 0 - suc n} (omega arith)
drop_take (suc n) (suc m) [] = sym (take_nothing (suc m - suc n))
  where
    take_nothing : (k : ℕ) → ◌≡◌ {A = List ℕ} (take k []) []
    take_nothing zero = refl
    take_nothing (suc k) = refl
drop_take (suc n) (suc m) (x ∷ xs) = drop_take n m xs ∙ ap (λ (k : ℕ). take k (drop n xs)) {x = m - n} {y = suc m - suc n} (omega arith)

-- the rows' part
pub rows_part : (ws : List ℕ) → length ws ≡ sid_words → take (sid_words - rows_at) (drop rows_at ws) ≡ drop rows_at ws
rows_part ws size = take_all (sid_words - rows_at) (drop rows_at ws) (simp length-drop (omega arith))

module _ (ws : List ℕ) where
  module _ (size : length ws ≡ sid_words) where
    pub part_few : get_or ws 0 0 < 2 → false ≡ words_test ws
    unfolding words_test count_test
    part_few h = rw (eq-eqb (length ws) sid_words size, lt-ltb (get_or ws 0 0) 2 h)

    module _ (low : 2 ≤ get_or ws 0 0) where
      pub part_many : max_sids < get_or ws 0 0 → false ≡ words_test ws
      unfolding words_test count_test
      part_many h = rw (eq-eqb (length ws) sid_words size, le-ltb (get_or ws 0 0) 2 low, lt-ltb max_sids (get_or ws 0 0) h)

      module _ (high : get_or ws 0 0 ≤ max_sids) where
        -- the lent parts
        places_part : take (1 + get_or ws 0 0 - 1) (drop 1 ws) ≡ take (get_or ws 0 0) (take max_sids (drop 1 ws))
        places_part = ap (λ (k : ℕ). take k (drop 1 ws)) {x = 1 + get_or ws 0 0 - 1} {y = get_or ws 0 0} (omega arith) ∙ sym (take-take (get_or ws 0 0) max_sids (drop 1 ws) high)

        behind_places : take (rows_at - (1 + get_or ws 0 0)) (drop (1 + get_or ws 0 0) ws) ≡ drop (get_or ws 0 0) (take max_sids (drop 1 ws))
        behind_places =
            ap₂ take {x = rows_at - (1 + get_or ws 0 0)} {y = max_sids - get_or ws 0 0} (omega arith) (sym (drop-drop (get_or ws 0 0) 1 ws))
            ∙ sym (drop_take (get_or ws 0 0) max_sids (drop 1 ws))

        behind_rows : take (sid_words - (rows_at + get_or ws 0 0 * row_words)) (drop (rows_at + get_or ws 0 0 * row_words) ws) ≡ drop (get_or ws 0 0 * row_words) (drop rows_at ws)
        behind_rows =
            take_all (sid_words - (rows_at + get_or ws 0 0 * row_words)) (drop (rows_at + get_or ws 0 0 * row_words) ws) (simp length-drop (omega arith))
            ∙ sym (drop-drop (get_or ws 0 0 * row_words) rows_at ws)

        pub part_places : {b : Bool} → b ≡ all (is_below (get_or ws 0 0)) (take (1 + get_or ws 0 0 - 1) (drop 1 ws)) → not b ≡ true → false ≡ words_test ws
        unfolding words_test count_test
        part_places {b} e f =
            rw (eq-eqb (length ws) sid_words size, le-ltb (get_or ws 0 0) 2 low, le-ltb max_sids (get_or ws 0 0) high, sym places_part, sym e, not-true b f)

        pub part_tests : {b r s p q t : Bool} → b ≡ all (is_below (get_or ws 0 0)) (take (1 + get_or ws 0 0 - 1) (drop 1 ws)) → not b ≡ false
            → r ≡ all_below (is_row_at (take (sid_words - rows_at) (drop rows_at ws))) (get_or ws 0 0)
            → s ≡ rising (row_at (take (sid_words - rows_at) (drop rows_at ws))) (take (1 + get_or ws 0 0 - 1) (drop 1 ws))
            → p ≡ all is_zero (take (rows_at - (1 + get_or ws 0 0)) (drop (1 + get_or ws 0 0) ws))
            → q ≡ all is_zero (take (sid_words - (rows_at + get_or ws 0 0 * row_words)) (drop (rows_at + get_or ws 0 0 * row_words) ws))
            → t ≡ starts_test (take (sid_words - rows_at) (drop rows_at ws))
            → (r && s && p && q && t) ≡ words_test ws
        unfolding words_test count_test table_test
        part_tests {b} e f er es ep eq et =
            rw (eq-eqb (length ws) sid_words size, le-ltb (get_or ws 0 0) 2 low, le-ltb max_sids (get_or ws 0 0) high, sym places_part, sym e, not-false b f)
            (ap₂ ◌&&◌ (ap₂ ◌&&◌ (ap₂ ◌&&◌ (ap₂ ◌&&◌
            (er ∙ ap (λ (l : List ℕ). all_below (is_row_at l) (get_or ws 0 0)) (rows_part ws size))
            (es ∙ ap (λ (l : List ℕ). rising (row_at l) (take (1 + get_or ws 0 0 - 1) (drop 1 ws))) (rows_part ws size)))
            (ep ∙ ap (all is_zero) behind_places))
            (eq ∙ ap (all is_zero) behind_rows))
            (et ∙ ap starts_test (rows_part ws size)))

pub size_rows : (ws : List ℕ) → length ws ≡ sid_words → length (take (sid_words - rows_at) (drop rows_at ws)) ≡ max_sids * row_words
size_rows ws size = simp (length-take, length-drop) (omega arith)

pub some_places : (ws : List ℕ) → length ws ≡ sid_words → 2 ≤ get_or ws 0 0 → 0 < length (take (1 + get_or ws 0 0 - 1) (drop 1 ws))
some_places ws size low = simp (length-take, length-drop) (omega arith)

pub places_below : (ws : List ℕ) {b : Bool} → get_or ws 0 0 ≤ max_sids → b ≡ all (is_below (get_or ws 0 0)) (take (1 + get_or ws 0 0 - 1) (drop 1 ws)) → not b ≡ false
    → all (is_below max_sids) (take (1 + get_or ws 0 0 - 1) (drop 1 ws)) ≡ true
places_below ws {b} high e f = below_wider (get_or ws 0 0) max_sids (take (1 + get_or ws 0 0 - 1) (drop 1 ws)) high (sym e ∙ not-false b f)
