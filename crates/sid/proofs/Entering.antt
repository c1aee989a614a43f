-- A SID entered: what is written of the longer table is the words with one row and one place more. Assumes nothing.
use Prim.Native.Nat.{ℕ, suc, ◌+◌, ◌*◌, ◌-◌, ◌≤◌, ◌<◌}
use native.Mathlib.Numerals.{add-one}
use native.Mathlib.Omega.{arith}
use mathlib.Core.Path.{◌≡◌, refl, sym, ap, ap₂, ◌∙◌}
use mathlib.Core.List.{List, [], ◌∷◌, ◌++◌, append_assoc}
use lib.ListN.{length, take, drop, get_or, set, length-drop, length-take, length-append, get_or-append, replicate}
use lib.Seq.{drop-drop, take_at, drop_at, get_or-append_seam, take-append-le, drop-append-add, take-append-add}
use Rattle.table.specs.Lists.{pad, length_pad, pad_fits, take_pad}
use Rattle.table.specs.Table.{put_record, flat}
use Rattle.rules.specs.Sid.{Sid}
use Rattle.rules.specs.SidTable.{max_sids}
use Rattle.rules.specs.SidRows.{row_words, sid_row, rank, insert, order, row_at, rows_at, sid_words, ordered, write_sids}
use Rattle.rules.proofs.SidOrder.{length_order, order_below, rank_le, insert_at, order_same, rank_same, ordered_suc}
use Rattle.rules.proofs.SidWords.{drop_zeros, length_rows, row_written, rows_more, rows_of}
use Rattle.sid.specs.Finding.{shifted, added}

-- one place more
pub pad_shifted : (m r new : ℕ) (xs : List ℕ) → length xs < m → r ≤ length xs → pad m (take r xs ++ (new ∷ drop r xs)) ≡ shifted (length xs) r new (pad m xs)
unfolding shifted
pad_shifted m r new xs h l =
    let n : ℕ = length xs in
    let size : length (take r xs ++ (new ∷ drop r xs)) ≡ suc n = length-append (take r xs) (new ∷ drop r xs) ∙ omega (arith, length-take r xs, length-drop r xs) in
    let p : pad m xs ≡ xs ++ replicate (m - n) 0 = pad_fits m xs (omega arith) in
    let a : take r (pad m xs) ≡ take r xs = ap (take r) p ∙ take-append-le r xs (replicate (m - n) 0) l in
    let b : drop r (take n (pad m xs)) ≡ drop r xs = ap (drop r) (take_pad m xs (omega arith)) in
    let c : drop (n + 1) (pad m xs) ≡ replicate (m - suc n) 0 =
    ap (drop (n + 1)) p ∙ drop-append-add xs (replicate (m - n) 0) 1 ∙ drop_zeros 1 (m - n) ∙ ap (λ (k : ℕ). replicate k 0) {x = m - n - 1} {y = m - suc n} (omega arith) in
    pad_fits m (take r xs ++ (new ∷ drop r xs)) (omega arith)
    ∙ ap (λ (k : ℕ). (take r xs ++ (new ∷ drop r xs)) ++ replicate (m - k) 0) size
    ∙ append_assoc (take r xs) (new ∷ drop r xs) (replicate (m - suc n) 0)
    ∙ sym (ap₂ (λ (u v : List ℕ). u ++ (new ∷ v)) a (ap₂ (λ (u v : List ℕ). u ++ v) b c))

-- ---- one row more

module _ (ss : List Sid) (s : Sid) (few : length ss < max_sids) where
  abbrev n : ℕ
  n = length ss

  abbrev rows : List ℕ
  rows = rows_of ss

  abbrev rows' : List ℕ
  rows' = rows_of (ss ++ (s ∷ []))

  one_more : length (ss ++ (s ∷ [])) ≡ suc n
  one_more = length-append ss (s ∷ []) ∙ omega arith

  put : rows' ≡ put_record row_words n (sid_row s) rows
  unfolding put_record
  put =
      let z : ℕ = max_sids * row_words - n * row_words in
      let p : rows ≡ flat sid_row ss ++ replicate z 0 =
      pad_fits (max_sids * row_words) (flat sid_row ss) (omega (arith, length_rows ss)) ∙ ap (λ (k : ℕ). flat sid_row ss ++ replicate (max_sids * row_words - k) 0) (length_rows ss) in
      let a : take (n * row_words) rows ≡ flat sid_row ss = ap (take (n * row_words)) p ∙ take_at (flat sid_row ss) (replicate z 0) (n * row_words) (length_rows ss) in
      let b : drop row_words (drop (n * row_words) rows) ≡ replicate (z - row_words) 0 =
      ap (λ (l : List ℕ). drop row_words (drop (n * row_words) l)) p ∙ ap (drop row_words) (drop_at (flat sid_row ss) (replicate z 0) (n * row_words) (length_rows ss)) ∙ drop_zeros row_words z in
      let size : length (flat sid_row (ss ++ (s ∷ []))) ≡ n * row_words + row_words = length_rows (ss ++ (s ∷ [])) ∙ omega (arith, one_more) in
      pad_fits (max_sids * row_words) (flat sid_row (ss ++ (s ∷ []))) (omega arith)
      ∙ ap₂ (λ (l : List ℕ) (k : ℕ). l ++ replicate (max_sids * row_words - k) 0) (rows_more ss s) size
      ∙ append_assoc (flat sid_row ss) (sid_row s) (replicate (max_sids * row_words - (n * row_words + row_words)) 0)
      ∙ sym (ap₂ (λ (u v : List ℕ). u ++ (sid_row s ++ v)) a (b ∙ ap (λ (k : ℕ). replicate k 0) {x = z - row_words} {y = max_sids * row_words - (n * row_words + row_words)} (omega arith)))

  row_old : (i : ℕ) → i < n → row_at rows' i ≡ row_at rows i
  row_old i l =
      ap (λ (r : List ℕ). row_at r i) (pad_fits (max_sids * row_words) (flat sid_row (ss ++ (s ∷ []))) (omega (arith, length_rows (ss ++ (s ∷ [])), one_more)))
      ∙ row_written (ss ++ (s ∷ [])) _ s i (omega (arith, one_more)) ∙ ap sid_row (get_or-append ss (s ∷ []) s i l)
      ∙ sym (ap (λ (r : List ℕ). row_at r i) (pad_fits (max_sids * row_words) (flat sid_row ss) (omega (arith, length_rows ss))) ∙ row_written ss _ s i l)

  row_new : row_at rows' n ≡ sid_row s
  row_new =
      ap (λ (r : List ℕ). row_at r n) (pad_fits (max_sids * row_words) (flat sid_row (ss ++ (s ∷ []))) (omega (arith, length_rows (ss ++ (s ∷ [])), one_more)))
      ∙ row_written (ss ++ (s ∷ [])) _ s n (omega (arith, one_more)) ∙ ap sid_row (get_or-append_seam ss s [] s)

  -- the longer table, written
  pub added_written : write_sids (ss ++ (s ∷ [])) ≡ added n (rank (row_at rows) (sid_row s) (order (row_at rows) n)) (sid_row s) (write_sids ss)
  unfolding write_sids ordered added
  added_written =
      let o : List ℕ = order (row_at rows) n in
      let r : ℕ = rank (row_at rows) (sid_row s) o in
      let same : order (row_at rows') n ≡ o = order_same (row_at rows') (row_at rows) n row_old in
      let ranks : rank (row_at rows') (row_at rows' n) o ≡ r =
      ap (λ (x : List ℕ). rank (row_at rows') x o) row_new ∙ rank_same (row_at rows') (row_at rows) (sid_row s) o (λ i m. row_old i (order_below (row_at rows) n i m)) in
      let longer : order (row_at rows') (suc n) ≡ take r o ++ (n ∷ drop r o) =
      ordered_suc (row_at rows') n ∙ ap (insert (row_at rows') n) same ∙ insert_at (row_at rows') n o ∙ ap (λ (k : ℕ). take k o ++ (n ∷ drop k o)) ranks in
      let size : length o ≡ n = length_order (row_at rows) n in
      let places : pad max_sids (order (row_at rows') (suc n)) ≡ shifted n r n (pad max_sids o) =
      ap (pad max_sids) longer ∙ pad_shifted max_sids r n o (omega (arith, size)) (rank_le (row_at rows) (sid_row s) o) ∙ ap (λ (k : ℕ). shifted k r n (pad max_sids o)) size in
      ap (λ (k : ℕ). k ∷ (pad max_sids (order (row_at rows') k) ++ rows')) one_more
      ∙ ap₂ (λ (k : ℕ) (l : List ℕ). k ∷ l) (sym (add-one n))
      (ap₂ (λ (u v : List ℕ). u ++ v) (places ∙ ap (shifted n r n) (sym (take_at (pad max_sids o) rows max_sids (length_pad max_sids o))))
      (put ∙ ap (put_record row_words n (sid_row s)) (sym (drop_at (pad max_sids o) rows max_sids (length_pad max_sids o)))))

-- ---- the code's stores, one after the other

length_shifted : (n k new : ℕ) (p : List ℕ) → k ≤ n → n < length p → length (shifted n k new p) ≡ length p
unfolding shifted
length_shifted n k new p h l =
    length-append (take k p) (new ∷ (drop k (take n p) ++ drop (n + 1) p))
    ∙ omega (arith, length-take k p, length-append (drop k (take n p)) (drop (n + 1) p), length-drop k (take n p), length-take n p, length-drop (n + 1) p)

head_one : (ws : List ℕ) → 0 < length ws → take 1 ws ≡ get_or ws 0 0 ∷ []
head_one [] h = absurd (omega arith)
head_one (w ∷ ws) h = refl

module _ (ws x : List ℕ) (n k : ℕ) (size : length ws ≡ sid_words) (wide : length x ≡ row_words) (low : k ≤ n) (few : n < max_sids) where
  places_long : length (take (rows_at - 1) (drop 1 ws)) ≡ max_sids
  places_long = length-take (rows_at - 1) (drop 1 ws) ∙ omega (arith, length-drop 1 ws)

  pub added_made : (p b : List ℕ) → p ≡ shifted n k n (take (rows_at - 1) (drop 1 ws)) → b ≡ x
      → set (take (rows_at + n * row_words) (take 1 ws ++ (p ++ drop (rows_at - 1) (drop 1 ws)))
      ++ (b ++ drop (rows_at + n * row_words + row_words - (rows_at + n * row_words)) (drop (rows_at + n * row_words) (take 1 ws ++ (p ++ drop (rows_at - 1) (drop 1 ws)))))) 0 (n + 1)
      ≡ added n k x ws
  unfolding added put_record
  added_made p b e f =
      let pl : length p ≡ max_sids = ap length e ∙ length_shifted n k n (take (rows_at - 1) (drop 1 ws)) low (omega (arith, places_long)) ∙ places_long in
      let rest : drop (rows_at - 1) (drop 1 ws) ≡ drop rows_at ws = drop-drop 256 1 ws in
      let whole : take 1 ws ++ (p ++ drop (rows_at - 1) (drop 1 ws)) ≡ get_or ws 0 0 ∷ (p ++ drop rows_at ws) = ap₂ (λ (u v : List ℕ). u ++ (p ++ v)) (head_one ws (omega arith)) rest in
      let at : rows_at + n * row_words ≡ suc (256 + n * row_words) = omega arith in
      let front : take (rows_at + n * row_words) (get_or ws 0 0 ∷ (p ++ drop rows_at ws)) ≡ get_or ws 0 0 ∷ (p ++ take (n * row_words) (drop rows_at ws)) =
      ap (λ (j : ℕ). take j (get_or ws 0 0 ∷ (p ++ drop rows_at ws))) at
      ∙ ap (λ (l : List ℕ). get_or ws 0 0 ∷ l) (ap (λ (j : ℕ). take (j + n * row_words) (p ++ drop rows_at ws)) (sym pl) ∙ take-append-add p (drop rows_at ws) (n * row_words)) in
      let back : drop (rows_at + n * row_words) (get_or ws 0 0 ∷ (p ++ drop rows_at ws)) ≡ drop (n * row_words) (drop rows_at ws) =
      ap (λ (j : ℕ). drop j (get_or ws 0 0 ∷ (p ++ drop rows_at ws))) at
      ∙ ap (λ (j : ℕ). drop (j + n * row_words) (p ++ drop rows_at ws)) (sym pl) ∙ drop-append-add p (drop rows_at ws) (n * row_words) in
      let nine : rows_at + n * row_words + row_words - (rows_at + n * row_words) ≡ row_words = omega arith in
      ap (λ (l : List ℕ). set (take (rows_at + n * row_words) l ++ (b ++ drop (rows_at + n * row_words + row_words - (rows_at + n * row_words)) (drop (rows_at + n * row_words) l))) 0 (n + 1)) whole
      ∙ ap₂ (λ (u v : List ℕ). set (u ++ (b ++ drop (rows_at + n * row_words + row_words - (rows_at + n * row_words)) v)) 0 (n + 1)) front back
      ∙ ap₂ (λ (y : List ℕ) (j : ℕ). (n + 1) ∷ ((p ++ take (n * row_words) (drop rows_at ws)) ++ (y ++ drop j (drop (n * row_words) (drop rows_at ws))))) f nine
      ∙ ap (λ (l : List ℕ). (n + 1) ∷ l) (append_assoc p (take (n * row_words) (drop rows_at ws)) (x ++ drop row_words (drop (n * row_words) (drop rows_at ws)))
      ∙ ap (λ (q : List ℕ). q ++ (take (n * row_words) (drop rows_at ws) ++ (x ++ drop row_words (drop (n * row_words) (drop rows_at ws))))) e)
