-- A loop over the rows of two tables side by side, as `as_chunks` gives them, that tests each row. Assumes nothing.
use Rattle.std.proofs.Common.{◌≡◌, ℕ, ◌<◌, Bool, ◌&&◌, List, [], ◌∷◌, ◌++◌, length, length-append, sym, subst, ◌∙◌, arith, Bor, Option, Some, None}
use Rattle.std.specs.Iterator.{Yields}
use Rattle.std.specs.Iterator.Adapters.{zip_first, zip_second}
use Rattle.std.specs.Simd.{first_chunks}
use Rattle.std.specs.Slice.Iter.{iter_rest}
use Rattle.std.specs.declared.iter.Zip.{Zip}
use Rattle.std.specs.declared.slice.Iter.{Iter}
use Rattle.std.proofs.iter.Yields.{fronts}
use Rattle.std.proofs.lemmas.Iterator.{zips}
use Rattle.std.proofs.lemmas.Slice.Zip.{zip_turn, zip_end}
use Rattle.table.specs.Chunks.{length_chunks, chunk_at, chunks_tested}
use Rattle.table.specs.Rows.{test_rows, RowsTested, rows_done}

-- `pairs` were yielded, and r is what comes next
module _ {A B : Type 0} (t : List A → List B → Bool) (w v n : ℕ) (xs : List A) (bs : List B)
    (pairs : List (Bor (List A) × Bor (List B))) (s z u : Zip (Iter (List A)) (Iter (List B))) {r : Option (Bor (List A) × Bor (List B))}
    (first : iter_rest (zip_first s) ≡ first_chunks w n xs) (second : iter_rest (zip_second s) ≡ first_chunks v n bs)
    (y : Yields (zips fronts fronts) s pairs z) {ok : Bool} (h : RowsTested t w v n xs bs ok (length pairs)) (step : zips fronts fronts z r u) where
  pub pair_tested : {b : Bool} (p : Bor (List A) × Bor (List B)) → r ≡ Some p → b ≡ t p.0.now p.1.now → RowsTested t w v n xs bs (ok && b) (length (pairs ++ (p ∷ [])))
  pair_tested {b} p e g =
      let q = zip_turn (first_chunks w n xs) (first_chunks v n bs) pairs s z u r first second y p e step in
      let l : length pairs < n = omega (arith, q.0, length_chunks w n xs) in
      subst (RowsTested t w v n xs bs (ok && b)) (sym (length-append pairs (p ∷ [])))
      (chunks_tested t w v p.0.now p.1.now h l (q.2 p.0.now ∙ chunk_at w p.0.now n (length pairs) xs l) (q.3 p.1.now ∙ chunk_at v p.1.now n (length pairs) bs l) g)

  pub pairs_tested : r ≡ None → ok ≡ test_rows t w v n xs bs
  pairs_tested e =
      let q = zip_end (first_chunks w n xs) (first_chunks v n bs) pairs s z u r first second y e step in
      rows_done t w v h (omega (arith, q, length_chunks w n xs, length_chunks v n bs))
