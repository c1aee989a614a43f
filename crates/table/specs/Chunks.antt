-- The rows of a table as std's `as_chunks` gives them: row i is record i, and a loop over them tests every row. Assumes nothing.
use Rattle.std.specs.Prelude.{◌≡◌, Bool, ◌&&◌, length, get_or}
use Rattle.std.specs.Simd.{first_chunks}
use Rattle.std.proofs.Math.Path.{refl, sym, ap, ap₂}
use Rattle.std.proofs.Common.{◌∙◌, not-suc-le-zero, zero-mul, suc-mul, add_comm, arith}
use mathlib.Core.List.{List, []}
use Prim.Native.Nat.{ℕ, zero, suc, ◌+◌, ◌*◌, ◌≤◌, ◌<◌}
use Rattle.std.proofs.Math.ListN.{take, drop}
use Rattle.std.proofs.Math.Seq.{drop-drop}
use Rattle.table.specs.Table.{nth_record, part_at}
use Rattle.table.specs.Rows.{RowsTested, rows_more, rows_done, test_rows}

module _ {A : Type 0} (w : ℕ) where
  pub length_chunks : (n : ℕ) (xs : List A) → length (first_chunks w n xs) ≡ n
  length_chunks zero xs = refl
  length_chunks (suc n) xs = ap suc (length_chunks n (drop w xs))

  pub chunk_at : (d : List A) (n i : ℕ) (xs : List A) → i < n → get_or (first_chunks w n xs) i d ≡ nth_record w i xs
  unfolding nth_record
  chunk_at d zero i xs h = absurd (not-suc-le-zero h)
  chunk_at d (suc n) zero xs h = ap (λ (k : ℕ). take w (drop k xs)) (sym (zero-mul w))
  chunk_at d (suc n) (suc i) xs h =
      chunk_at d n i (drop w xs) (omega arith)
      ∙ ap (take w) (drop-drop (i * w) w xs ∙ ap (λ (k : ℕ). drop k xs) (add_comm w (i * w) ∙ sym (suc-mul i w)))

-- the rows that a call gave
module _ {A : Type 0} (w n : ℕ) (xs : List A) {rows : List (List A)} (e : rows ≡ first_chunks w n xs) where
  pub rows_long : length rows ≡ n
  rows_long = ap length e ∙ length_chunks w n xs

  pub row_at : (d : List A) {i : ℕ} → i < length rows → get_or rows i d ≡ nth_record w i xs
  row_at d {i} h = ap (λ (l : List (List A)). get_or l i d) e ∙ chunk_at w d n i xs (omega (arith, rows_long))

-- a turn of a loop that tests every row, of two tables side by side: `rows_none` begins it, `rows_done` ends it
module _ {A B : Type 0} (t : List A → List B → Bool) (w v : ℕ) where
  pub chunks_tested : {n : ℕ} {xs : List A} {bs : List B} {ok r : Bool} {i : ℕ} (x : List A) (y : List B) → RowsTested t w v n xs bs ok i → i < n
      → x ≡ nth_record w i xs → y ≡ nth_record v i bs → r ≡ t x y → RowsTested t w v n xs bs (ok && r) (i + 1)
  chunks_tested {xs = xs} {bs = bs} {i = i} x y h l e f g =
      rows_more t w v h l (g ∙ ap₂ t (e ∙ sym (part_at w i xs)) (f ∙ sym (part_at v i bs)))

-- the same of one table
module _ {A B : Type 0} (t : List A → List B → Bool) (w n : ℕ) (xs : List A) {rows : List (List A)} (e : rows ≡ first_chunks w n xs) where
  pub row_tested : {ok r : Bool} {i : ℕ} (d : List A) → RowsTested t w 0 n xs [] ok i → i < length rows → r ≡ t (get_or rows i d) [] → RowsTested t w 0 n xs [] (ok && r) (i + 1)
  unfolding nth_record
  row_tested {i = i} d h l g = chunks_tested t w 0 (get_or _ i d) [] h (omega (arith, rows_long w n xs e)) (row_at w n xs e d l) refl g

  pub all_tested : {ok : Bool} {i : ℕ} → RowsTested t w 0 n xs [] ok i → length rows ≤ i → ok ≡ test_rows t w 0 n xs []
  all_tested h l = rows_done t w 0 h (omega (arith, rows_long w n xs e))
