-- The SID table in words: its rows, the places of these, and what they are read back as. Assumes nothing.
use Prim.Native.Nat.{ℕ, zero, suc, ◌+◌, ◌*◌, ◌-◌, ◌≤◌, ◌<◌}
use native.Mathlib.Omega.{arith}
use mathlib.Core.Path.{◌≡◌, refl, sym, ap, ap₂, ◌∙◌}
use mathlib.Core.Bool.{true, ◌&&◌}
use mathlib.Core.List.{List, [], ◌∷◌, ◌++◌, append_assoc, append-nil}
use lib.Dec.{eqb}
use lib.ListN.{length, take, drop, get_or, length-drop, length-take, length-append, replicate, take-append-drop}
use lib.Seq.{drop-cons, drop-drop, take_at, drop_at, take-add, ext_get_or}
use borrow.Author.Tests.{eq-eqb, eqb-true}
use Rattle.table.specs.Lists.{pad, length_pad, pad_fits, take_pad}
use Rattle.table.specs.Table.{flat}
use Rattle.rules.specs.Basic.{is_zero, all, same}
use Rattle.rules.specs.Sid.{Sid, no_sid}
use Rattle.rules.specs.SidTable.{max_sids, sids_valid}
use Rattle.rules.specs.SidRows.{row_words, sid_row, row_sid, rising, order, row_at, rows_at, sid_words, ordered, write_sids, read_sids, sids_at, sid_words_valid}
use Rattle.rules.proofs.Logic.{and_l, and_r, and_i}
use Rattle.rules.proofs.Same.{same_eq, same_refl}
use Rattle.rules.proofs.Sids.{row_back, row_one, length_row}
use Rattle.rules.proofs.SidOrder.{length_order, order_rising}
use Rattle.rules.proofs.SidNumbers.{different_apart, sids_few, sids_apart, sid_at_lem}

-- ---- zeros behind

pub zeros_are : (xs : List ℕ) → all is_zero xs ≡ true → xs ≡ replicate (length xs) 0
unfolding all
zeros_are [] h = refl
zeros_are (x ∷ xs) h = ap₂ (λ (a : ℕ) (l : List ℕ). a ∷ l) (eqb-true x 0 (and_l (eqb x 0) (all is_zero xs) h)) (zeros_are xs (and_r (eqb x 0) (all is_zero xs) h))

pub are_zeros : (n : ℕ) → all is_zero (replicate n 0) ≡ true
unfolding all
are_zeros zero = refl
are_zeros (suc n) = are_zeros n

pub drop_zeros : (m n : ℕ) → drop m (replicate {A = ℕ} n 0) ≡ replicate (n - m) 0
drop_zeros zero n = ap (λ (k : ℕ). replicate k 0) {x = n} {y = n - 0} (omega arith)
drop_zeros (suc m) zero = ap (λ (k : ℕ). replicate {A = ℕ} k 0) {x = 0} {y = 0 - suc m} (omega arith)
drop_zeros (suc m) (suc n) = drop_zeros m n ∙ ap (λ (k : ℕ). replicate k 0) {x = n - m} {y = suc n - suc m} (omega arith)

-- a list that is zero from m on
pub pad_front : (k m : ℕ) (xs : List ℕ) → length xs ≡ k → m ≤ k → all is_zero (drop m xs) ≡ true → pad k (take m xs) ≡ xs
pad_front k m xs l h z =
    let size : length (take m xs) ≡ m = simp length-take (omega arith) in
    pad_fits k (take m xs) (omega arith)
    ∙ ap (λ (t : List ℕ). take m xs ++ t) (ap (λ (j : ℕ). replicate j 0) {x = k - length (take m xs)} {y = length (drop m xs)} (omega (arith, length-drop m xs)) ∙ sym (zeros_are (drop m xs) z))
    ∙ take-append-drop m xs

pub pad_behind : (k : ℕ) (xs : List ℕ) → length xs ≤ k → all is_zero (drop (length xs) (pad k xs)) ≡ true
pad_behind k xs h = ap (λ (l : List ℕ). all is_zero (drop (length xs) l)) (pad_fits k xs h) ∙ ap (all is_zero) (drop_at xs (replicate (k - length xs) 0) (length xs) refl) ∙ are_zeros (k - length xs)

-- ---- rows

pub length_rows : (ss : List Sid) → length (flat sid_row ss) ≡ length ss * row_words
unfolding flat
length_rows [] = refl
length_rows (s ∷ ss) = length-append (sid_row s) (flat sid_row ss) ∙ omega (arith, length_row s, length_rows ss)

row_next : (rows : List ℕ) (i : ℕ) → row_at rows (suc i) ≡ row_at (drop row_words rows) i
unfolding row_at
row_next rows i = ap (take row_words) (ap (λ (k : ℕ). drop k rows) {x = suc i * row_words} {y = row_words + i * row_words} (omega arith) ∙ sym (drop-drop (i * row_words) row_words rows))

row_first : (rows : List ℕ) → row_at rows 0 ≡ take row_words rows
unfolding row_at
row_first rows = refl

-- row i of rows written out, and zeros or anything else behind
pub row_written : (ss : List Sid) (rest : List ℕ) (d : Sid) (i : ℕ) → i < length ss → row_at (flat sid_row ss ++ rest) i ≡ sid_row (get_or ss i d)
unfolding flat
row_written [] rest d i h = absurd (omega arith)
row_written (s ∷ ss) rest d zero h =
    row_first ((sid_row s ++ flat sid_row ss) ++ rest) ∙ ap (take row_words) (append_assoc (sid_row s) (flat sid_row ss) rest) ∙ take_at (sid_row s) (flat sid_row ss ++ rest) row_words (length_row s)
row_written (s ∷ ss) rest d (suc i) h =
    row_next ((sid_row s ++ flat sid_row ss) ++ rest) i
    ∙ ap (λ (l : List ℕ). row_at l i) (ap (drop row_words) (append_assoc (sid_row s) (flat sid_row ss) rest) ∙ drop_at (sid_row s) (flat sid_row ss ++ rest) row_words (length_row s))
    ∙ row_written ss rest d i (omega arith)

pub length_read : (n : ℕ) (rows : List ℕ) → length (read_sids n rows) ≡ n
unfolding read_sids
length_read zero rows = refl
length_read (suc n) rows = ap suc (length_read n (drop row_words rows))

pub read_at : (n : ℕ) (rows : List ℕ) (d : Sid) (i : ℕ) → i < n → get_or (read_sids n rows) i d ≡ row_sid (row_at rows i)
unfolding read_sids
read_at zero rows d i h = absurd (omega arith)
read_at (suc n) rows d zero h = ap row_sid (sym (row_first rows))
read_at (suc n) rows d (suc i) h = read_at n (drop row_words rows) d i (omega arith) ∙ ap row_sid (sym (row_next rows i))

-- rows that are SIDs' are read and written back
pub rows_back : (n : ℕ) (rows : List ℕ) → ((i : ℕ) → i < n → sid_row (row_sid (row_at rows i)) ≡ row_at rows i) → flat sid_row (read_sids n rows) ≡ take (n * row_words) rows
unfolding read_sids flat
rows_back zero rows h = refl
rows_back (suc n) rows h =
    ap₂ (λ (x y : List ℕ). x ++ y) (ap (λ (r : List ℕ). sid_row (row_sid r)) (sym (row_first rows)) ∙ h 0 (omega arith) ∙ row_first rows)
    (rows_back n (drop row_words rows) (λ i l. ap (λ (r : List ℕ). sid_row (row_sid r)) (sym (row_next rows i)) ∙ h (suc i) (omega arith) ∙ row_next rows i))
    ∙ sym (take-add row_words (n * row_words) rows) ∙ ap (λ (k : ℕ). take k rows) {x = row_words + n * row_words} {y = suc n * row_words} (omega arith)

pub rows_more : (ss : List Sid) (s : Sid) → flat sid_row (ss ++ (s ∷ [])) ≡ flat sid_row ss ++ sid_row s
unfolding flat
rows_more [] s = append-nil (sid_row s)
rows_more (t ∷ ts) s = ap (λ (l : List ℕ). sid_row t ++ l) (rows_more ts s) ∙ sym (append_assoc (sid_row t) (flat sid_row ts) (sid_row s))

pub length_at : (rows : List ℕ) (i : ℕ) → length rows ≡ max_sids * row_words → i < max_sids → length (row_at rows i) ≡ row_words
unfolding row_at
length_at rows i l h = simp (length-take, length-drop) (omega arith)

-- ---- the words of a table

-- its rows, with zeros behind
abbrev pub rows_of : List Sid → List ℕ
rows_of ss = pad (max_sids * row_words) (flat sid_row ss)

-- their places, by rising rows
abbrev pub places_of : List Sid → List ℕ
places_of ss = order (row_at (rows_of ss)) (length ss)

pub length_rows_of : (ss : List Sid) → length (rows_of ss) ≡ max_sids * row_words
length_rows_of ss = length_pad (max_sids * row_words) (flat sid_row ss)

pub length_places_of : (ss : List Sid) → length (places_of ss) ≡ length ss
length_places_of ss = length_order (row_at (rows_of ss)) (length ss)

-- of every list
pub length_sids : (ss : List Sid) → length (write_sids ss) ≡ sid_words
unfolding write_sids ordered
length_sids ss =
    ap suc (length-append (pad max_sids (places_of ss)) (rows_of ss)) ∙ omega (arith, length_pad max_sids (places_of ss), length_rows_of ss)

-- where the parts stand
pub count_in_lem : (ss : List Sid) → get_or (write_sids ss) 0 0 ≡ length ss
unfolding write_sids ordered
count_in_lem ss = refl

pub places_in : (ss : List Sid) → take max_sids (drop 1 (write_sids ss)) ≡ pad max_sids (places_of ss)
unfolding write_sids ordered
places_in ss = take_at (pad max_sids (places_of ss)) (rows_of ss) max_sids (length_pad max_sids (places_of ss))

pub rows_in_lem : (ss : List Sid) → drop rows_at (write_sids ss) ≡ rows_of ss
unfolding write_sids ordered
rows_in_lem ss = drop_at (pad max_sids (places_of ss)) (rows_of ss) max_sids (length_pad max_sids (places_of ss))

-- words of this size are a count, places and rows
pub split : (ws : List ℕ) → length ws ≡ sid_words → ws ≡ get_or ws 0 0 ∷ (take max_sids (drop 1 ws) ++ drop rows_at ws)
split ws l =
    drop-cons ws 0 0 (omega arith)
    ∙ ap (λ (t : List ℕ). get_or ws 0 0 ∷ t) (sym (ap (λ (t : List ℕ). take max_sids (drop 1 ws) ++ t) (sym (drop-drop max_sids 1 ws)) ∙ take-append-drop max_sids (drop 1 ws)))

-- ---- of a valid table

module _ (ss : List Sid) (v : sids_valid ss ≡ true) where
  pub rows_fit : length (flat sid_row ss) ≤ max_sids * row_words
  rows_fit = omega (arith, sids_few ss v, length_rows ss)

  pub row_of : (i : ℕ) → i < length ss → row_at (rows_of ss) i ≡ sid_row (get_or ss i no_sid)
  row_of i l = ap (λ (r : List ℕ). row_at r i) (pad_fits (max_sids * row_words) (flat sid_row ss) rows_fit) ∙ row_written ss _ no_sid i l

  pub apart_rows : (i j : ℕ) → i < length ss → j < length ss → row_at (rows_of ss) i ≡ row_at (rows_of ss) j → i ≡ j
  apart_rows i j l k e =
      different_apart no_sid ss (sids_apart ss v) i j l k
      (row_one (get_or ss i no_sid) (get_or ss j no_sid) (sid_at_lem ss v i l) (sid_at_lem ss v j k) (sym (row_of i l) ∙ e ∙ row_of j k))

  pub places_rise : rising (row_at (rows_of ss)) (places_of ss) ≡ true
  places_rise = order_rising (row_at (rows_of ss)) row_words max_sids (λ i l. length_at (rows_of ss) i (length_rows_of ss) l) (length ss) (sids_few ss v) apart_rows

  pub places_front : take (length ss) (pad max_sids (places_of ss)) ≡ places_of ss
  places_front =
      ap (λ (k : ℕ). take k (pad max_sids (places_of ss))) (sym (length_places_of ss)) ∙ take_pad max_sids (places_of ss) (omega (arith, sids_few ss v, length_places_of ss))

  -- it is read back
  pub read_back : sids_at (write_sids ss) ≡ ss
  unfolding sids_at
  read_back =
      ap₂ read_sids (count_in_lem ss) (rows_in_lem ss)
      ∙ ext_get_or no_sid (read_sids (length ss) (rows_of ss)) ss (length_read (length ss) (rows_of ss)) (λ i l.
      let h : i < length ss = omega (arith, length_read (length ss) (rows_of ss)) in
      read_at (length ss) (rows_of ss) no_sid i h ∙ ap row_sid (row_of i h) ∙ row_back (get_or ss i no_sid) (sid_at_lem ss v i h))

  pub written_valid : sid_words_valid (write_sids ss) ≡ true
  unfolding sid_words_valid
  written_valid =
      and_i (and_i (eq-eqb (length (write_sids ss)) sid_words (length_sids ss))
      (ap (λ (t : List Sid). same (write_sids t) (write_sids ss)) read_back ∙ same_refl (write_sids ss)))
      (ap sids_valid read_back ∙ v)

-- ---- valid words are what their table is written as

module _ (ws : List ℕ) (v : sid_words_valid ws ≡ true) where
  pub words_size : length ws ≡ sid_words
  unfolding sid_words_valid
  words_size = eqb-true (length ws) sid_words (and_l _ (same (write_sids (sids_at ws)) ws) (and_l _ (sids_valid (sids_at ws)) v))

  pub words_written : write_sids (sids_at ws) ≡ ws
  unfolding sid_words_valid
  words_written = same_eq (write_sids (sids_at ws)) ws (and_r (eqb (length ws) sid_words) _ (and_l _ (sids_valid (sids_at ws)) v))

  pub words_valid : sids_valid (sids_at ws) ≡ true
  unfolding sid_words_valid
  words_valid = and_r (eqb (length ws) sid_words && same (write_sids (sids_at ws)) ws) _ v
