-- The order of rows is strict and total; rows in rising order are different, and stand in one order only. Assumes nothing.
use Prim.Native.Nat.{ℕ, zero, suc, ◌≤◌, ◌<◌}
use native.Mathlib.Omega.{arith}
use mathlib.Core.Path.{◌≡◌, refl, sym, ap, ap₂, ◌∙◌}
use mathlib.Core.Bool.{Bool, true, false}
use mathlib.Core.Logic.{◌⊎◌, inl, inr, ⊎_elim}
use mathlib.Core.List.{List, [], ◌∷◌, ◌++◌}
use lib.ListN.{length, take, drop, get_or}
use borrow.Author.Tests.{eq-eqb, ne_eqb, lt-ltb, le-ltb}
use Rattle.std.specs.Prelude.{if◌then◌else◌}
use Rattle.rules.specs.Basic.{member, distinct}
use Rattle.rules.specs.SidRows.{less, rising_from, rising, rank, insert, order}
use Rattle.rules.specs.Growth.{Mem, here, there}
use Rattle.rules.proofs.Logic.{and_l, and_r, and_i, not_both, either, mem_none, get_or_mem, member_mem, mem_member, distinct_cons, few}
use Rattle.rules.proofs.Numbers.{below_or}

-- ---- different numbers below n: where they are n, every one of these

abbrev pub Below : ℕ → List ℕ → Type 0
Below n xs = (x : ℕ) → Mem x xs → x < n

pub every : (n : ℕ) (xs : List ℕ) → distinct xs ≡ true → Below n xs → length xs ≡ n → (i : ℕ) → i < n → Mem i xs
every n xs d b l i h =
    ⊎_elim (λ m. member_mem i xs m)
    (λ e. absurd (omega (arith, few n (i ∷ xs) (distinct_cons i xs (λ m. not_both (mem_member m) e) d) below))) (either (member i xs))
  where
    below : Below n (i ∷ xs)
    below x (here e) = omega arith
    below x (there m) = b x m

-- ---- rows

pub less_self : (xs : List ℕ) → less xs xs ≡ false
unfolding less
less_self [] = refl
less_self (x ∷ xs) = rw (eq-eqb x x refl) (less_self xs)

-- by the first word
module _ (x y : ℕ) (xs ys : List ℕ) where
  less_equal : x ≡ y → less (x ∷ xs) (y ∷ ys) ≡ less xs ys
  unfolding less
  less_equal e = rw (eq-eqb x y e)

  less_below : x < y → less (x ∷ xs) (y ∷ ys) ≡ true
  unfolding less
  less_below h = rw (ne_eqb x y (λ e. omega arith)) (lt-ltb x y h)

  less_above : y < x → less (x ∷ xs) (y ∷ ys) ≡ false
  unfolding less
  less_above h = rw (ne_eqb x y (λ e. omega arith)) (le-ltb x y (omega arith))

  less_either : less (x ∷ xs) (y ∷ ys) ≡ true → (x < y) ⊎ ((x ≡ y) × (less xs ys ≡ true))
  less_either h =
      ⊎_elim (λ l. inl l)
      (λ g. ⊎_elim (λ l. absurd (not_both h (less_above l))) (λ g'. let e : x ≡ y = omega arith in inr (e, sym (less_equal e) ∙ h)) (below_or y x)) (below_or x y)

pub less_trans : (xs ys zs : List ℕ) → less xs ys ≡ true → less ys zs ≡ true → less xs zs ≡ true
unfolding less
less_trans [] ys zs h k = absurd (not_both h refl)
less_trans (x ∷ xs) [] zs h k = absurd (not_both h refl)
less_trans (x ∷ xs) (y ∷ ys) [] h k = absurd (not_both k refl)
less_trans (x ∷ xs) (y ∷ ys) (z ∷ zs) h k =
    ⊎_elim (λ a. ⊎_elim (λ b. less_below x z xs zs (omega arith)) (λ b. less_below x z xs zs (omega arith)) (less_either y z ys zs k))
    (λ a. ⊎_elim (λ b. less_below x z xs zs (omega arith)) (λ b. less_equal x z xs zs (omega arith) ∙ less_trans xs ys zs a.1 b.1) (less_either y z ys zs k))
    (less_either x y xs ys h)

pub less_total : (xs ys : List ℕ) → length xs ≡ length ys → less xs ys ≡ false → less ys xs ≡ false → xs ≡ ys
less_total [] [] e h k = refl
less_total [] (y ∷ ys) e h k = absurd (omega arith)
less_total (x ∷ xs) [] e h k = absurd (omega arith)
less_total (x ∷ xs) (y ∷ ys) e h k =
    ⊎_elim (λ a. absurd (not_both (less_below x y xs ys a) h))
    (λ g. ⊎_elim (λ a. absurd (not_both (less_below y x ys xs a) k))
    (λ g'. let q : x ≡ y = omega arith in
    ap₂ (λ (a : ℕ) (l : List ℕ). a ∷ l) q (less_total xs ys (omega arith) (sym (less_equal x y xs ys q) ∙ h) (sym (less_equal y x ys xs (sym q)) ∙ k)))
    (below_or y x)) (below_or x y)

-- ---- places in rising order

module _ (row : ℕ → List ℕ) where
  pub rising_tail : (i : ℕ) (is : List ℕ) → rising row (i ∷ is) ≡ true → rising row is ≡ true
  unfolding rising rising_from
  rising_tail i [] h = refl
  rising_tail i (j ∷ js) h = and_r (less (row i) (row j)) (rising_from row j js) h

  pub rising_first : (i : ℕ) (is : List ℕ) → rising row (i ∷ is) ≡ true → (j : ℕ) → Mem j is → less (row i) (row j) ≡ true
  unfolding rising rising_from
  rising_first i [] h j m = absurd (mem_none m)
  rising_first i (k ∷ ks) h j (here e) = ap (λ (x : ℕ). less (row i) (row x)) e ∙ and_l (less (row i) (row k)) (rising_from row k ks) h
  rising_first i (k ∷ ks) h j (there m) =
      less_trans (row i) (row k) (row j) (and_l (less (row i) (row k)) (rising_from row k ks) h) (rising_first k ks (and_r (less (row i) (row k)) (rising_from row k ks) h) j m)

  pub rising_cons : (i : ℕ) (is : List ℕ) → ((j : ℕ) → Mem j is → less (row i) (row j) ≡ true) → rising row is ≡ true → rising row (i ∷ is) ≡ true
  unfolding rising rising_from
  rising_cons i [] h k = refl
  rising_cons i (j ∷ js) h k = and_i (h j (here refl)) k

  -- no place twice
  pub rising_distinct : (is : List ℕ) → rising row is ≡ true → distinct is ≡ true
  unfolding distinct
  rising_distinct [] h = refl
  rising_distinct (i ∷ is) h =
      distinct_cons i is (λ m. not_both (rising_first i is h i m) (less_self (row i))) (rising_distinct is (rising_tail i is h))

  -- two places with the same row are one
  pub rising_apart : (is : List ℕ) → rising row is ≡ true → (i j : ℕ) → Mem i is → Mem j is → row i ≡ row j → i ≡ j
  rising_apart [] h i j x4 _ q = elim x4 [ ]
  rising_apart (k ∷ ks) h i j (here e) (here f) q = e ∙ sym f
  rising_apart (k ∷ ks) h i j (here e) (there m) q = absurd (not_both (rising_first k ks h j m) (ap (λ (r : List ℕ). less r (row j)) (ap row (sym e) ∙ q) ∙ less_self (row j)))
  rising_apart (k ∷ ks) h i j (there m) (here f) q = absurd (not_both (rising_first k ks h i m) (ap (λ (r : List ℕ). less r (row i)) (ap row (sym f) ∙ sym q) ∙ less_self (row i)))
  rising_apart (k ∷ ks) h i j (there m) (there m') q = rising_apart ks (rising_tail k ks h) i j m m' q

  -- not a place whose row is before all of these
  later : (i : ℕ) (is : List ℕ) {j k : ℕ} → rising row (i ∷ is) ≡ true → Mem k is → i ≡ j → {js : List ℕ} → Mem k (j ∷ js) → Mem k js
  later i is {j} {k} h m e (here q) = absurd (not_both (rising_first i is h k m) (ap (λ (x : ℕ). less (row i) (row x)) (q ∙ sym e) ∙ less_self (row i)))
  later i is h m e (there m') = m'

  -- one order only
  pub rising_unique : (is js : List ℕ) → rising row is ≡ true → rising row js ≡ true → ((k : ℕ) → Mem k is → Mem k js) → ((k : ℕ) → Mem k js → Mem k is) → is ≡ js
  rising_unique [] [] h g f b = refl
  rising_unique [] (j ∷ js) h g f b = absurd (mem_none (b j (here refl)))
  rising_unique (i ∷ is) [] h g f b = absurd (mem_none (f i (here refl)))
  rising_unique (i ∷ is) (j ∷ js) h g f b =
      ap₂ (λ (a : ℕ) (l : List ℕ). a ∷ l) e
      (rising_unique is js (rising_tail i is h) (rising_tail j js g) (λ k m. later i is h m e (f k (there m))) (λ k m. later j js g m (sym e) (b k (there m))))
    where
      first : Mem i (j ∷ js) → Mem j (i ∷ is) → i ≡ j
      first (here q) m = q
      first (there m) (here q) = sym q
      first (there m) (there m') = absurd (not_both (less_trans (row i) (row j) (row i) (rising_first i is h j m') (rising_first j js g i m)) (less_self (row i)))

      e : i ≡ j
      e = first (f i (here refl)) (b j (here refl))

-- ---- what rises through n rows of one length, all of them, is their order; and the rows are different

module _ (row : ℕ → List ℕ) where
  pub insert_mem : (k : ℕ) (is : List ℕ) {j : ℕ} → Mem j (insert row k is) → (j ≡ k) ⊎ Mem j is
  unfolding insert
  insert_mem k [] (here e) = inl e
  insert_mem k [] (there m) = inr m
  insert_mem k (i ∷ is) {j} m = by (less (row i) (row k)) (insert_mem k is) m
    where
      by : (b : Bool) → (Mem j (insert row k is) → (j ≡ k) ⊎ Mem j is) → Mem j (if b then i ∷ insert row k is else k ∷ i ∷ is) → (j ≡ k) ⊎ Mem j (i ∷ is)
      by true f (here e) = inr (here e)
      by true f (there m) = ⊎_elim (λ e. inl e) (λ m'. inr (there m')) (f m)
      by false f (here e) = inl e
      by false f (there m) = inr m

  pub length_insert : (k : ℕ) (is : List ℕ) → length (insert row k is) ≡ suc (length is)
  unfolding insert
  length_insert k [] = refl
  length_insert k (i ∷ is) = by (less (row i) (row k)) (length_insert k is)
    where
      by : (b : Bool) → length (insert row k is) ≡ suc (length is) → length (if b then i ∷ insert row k is else k ∷ i ∷ is) ≡ suc (length (i ∷ is))
      by true e = ap suc e
      by false e = refl

  pub length_order : (n : ℕ) → length (order row n) ≡ n
  unfolding order
  length_order zero = refl
  length_order (suc n) = length_insert n (order row n) ∙ ap suc (length_order n)

  pub order_below : (n : ℕ) → Below n (order row n)
  unfolding order
  order_below zero x m = absurd (mem_none m)
  order_below (suc n) x m = ⊎_elim (λ e. omega arith) (λ m'. omega (arith, order_below n x m')) (insert_mem n (order row n) m)

  -- rows of one length, different from k's
  module _ (w m : ℕ) (long : (i : ℕ) → i < m → length (row i) ≡ w) where
    pub insert_rising : (k : ℕ) (is : List ℕ) → k < m → Below m is → ((i : ℕ) → Mem i is → row i ≡ row k → ⊥) → rising row is ≡ true → rising row (insert row k is) ≡ true
    unfolding insert
    insert_rising k [] kb ib d h = rising_cons row k [] (λ j m. absurd (mem_none m)) h
    insert_rising k (i ∷ is) kb ib d h = by (less (row i) (row k)) refl (insert_rising k is kb (λ j m. ib j (there m)) (λ j m. d j (there m)) (rising_tail row i is h))
      where
        after : less (row i) (row k) ≡ true → (j : ℕ) → (j ≡ k) ⊎ Mem j is → less (row i) (row j) ≡ true
        after e j (inl q) = ap (λ (x : ℕ). less (row i) (row x)) q ∙ e
        after e j (inr m) = rising_first row i is h j m

        above : less (row i) (row k) ≡ false → less (row k) (row i) ≡ true
        above e = ⊎_elim (λ t. t) (λ f. absurd (d i (here refl) (less_total (row i) (row k) (long i (ib i (here refl)) ∙ sym (long k kb)) e f))) (either (less (row k) (row i)))

        before : less (row i) (row k) ≡ false → (j : ℕ) → Mem j (i ∷ is) → less (row k) (row j) ≡ true
        before e j (here q) = ap (λ (x : ℕ). less (row k) (row x)) q ∙ above e
        before e j (there m) = less_trans (row k) (row i) (row j) (above e) (rising_first row i is h j m)

        by : (b : Bool) → less (row i) (row k) ≡ b → rising row (insert row k is) ≡ true → rising row (if b then i ∷ insert row k is else k ∷ i ∷ is) ≡ true
        by true e r = rising_cons row i (insert row k is) (λ j m. after e j (insert_mem k is m)) r
        by false e r = rising_cons row k (i ∷ is) (before e) h

    -- different rows: their order rises
    pub order_rising : (n : ℕ) → n ≤ m → ((i j : ℕ) → i < n → j < n → row i ≡ row j → i ≡ j) → rising row (order row n) ≡ true
    unfolding order rising
    order_rising zero nm d = refl
    order_rising (suc n) nm d =
        insert_rising n (order row n) (omega arith) (λ i mi. omega (arith, order_below n i mi)) (λ i m q. let l : i < n = order_below n i m in let e : i ≡ n = d i n (omega arith) (omega arith) q in omega arith)
        (order_rising n (omega arith) (λ i j h k. d i j (omega arith) (omega arith)))

    module _ (n : ℕ) (nm : n ≤ m) (is : List ℕ) (size : length is ≡ n) (below : Below n is) (rises : rising row is ≡ true) where
      -- every place is there
      there_all : (i : ℕ) → i < n → Mem i is
      there_all = every n is (rising_distinct row is rises) below size

      -- the rows are different
      pub rises_different : (i j : ℕ) → i < n → j < n → row i ≡ row j → i ≡ j
      rises_different i j h k = rising_apart row is rises i j (there_all i h) (there_all j k)

      -- and this is their order
      pub rises_order : is ≡ order row n
      rises_order = rising_unique row is (order row n) rises up (λ k m. all_there k (below k m)) (λ k m. there_all k (order_below n k m))
        where
          up : rising row (order row n) ≡ true
          up = order_rising n nm rises_different

          all_there : (i : ℕ) → i < n → Mem i (order row n)
          all_there = every n (order row n) (rising_distinct row (order row n) up) (order_below n) (length_order n)

-- ---- a lookup by halving: rank is exact on rising places

module _ (row : ℕ → List ℕ) (x : List ℕ) where
  pub rank_le : (is : List ℕ) → rank row x is ≤ length is
  unfolding rank
  rank_le [] = omega arith
  rank_le (i ∷ is) = by (less (row i) x) (rank_le is)
    where
      by : (b : Bool) → rank row x is ≤ length is → (if b then suc (rank row x is) else 0) ≤ suc (length is)
      by true h = omega arith
      by false h = omega arith

  -- before x: all places up to it count
  pub rank_past : (is : List ℕ) → rising row is ≡ true → (p : ℕ) → p < length is → less (row (get_or is p 0)) x ≡ true → p < rank row x is
  unfolding rank
  rank_past [] h p l e = absurd (omega arith)
  rank_past (i ∷ is) h zero l e = rw e (omega arith)
  rank_past (i ∷ is) h (suc p) l e =
      rw (less_trans (row i) (row (get_or is p 0)) x (rising_first row i is h (get_or is p 0) (get_or_mem is p 0 (omega arith))) e)
      (omega (arith, rank_past is (rising_tail row i is h) p (omega arith) e))

  -- not before x: none from it on
  pub rank_upto : (is : List ℕ) (p : ℕ) → p < length is → less (row (get_or is p 0)) x ≡ false → rank row x is ≤ p
  unfolding rank
  rank_upto [] p l e = absurd (omega arith)
  rank_upto (i ∷ is) zero l e = rw e (omega arith)
  rank_upto (i ∷ is) (suc p) l e = by (less (row i) x) (rank_upto is p (omega arith) e)
    where
      by : (b : Bool) → rank row x is ≤ p → (if b then suc (rank row x is) else 0) ≤ suc p
      by true h = omega arith
      by false h = omega arith

  -- exact: a place whose row is x stands at rank
  pub rank_found : (is : List ℕ) → rising row is ≡ true → (i : ℕ) → Mem i is → row i ≡ x → get_or is (rank row x is) 0 ≡ i
  unfolding rank
  rank_found [] h i x4 q = elim x4 [ ]
  rank_found (k ∷ ks) h i (here e) q = rw (ap (less (row k)) (sym q) ∙ ap (λ (j : ℕ). less (row k) (row j)) e ∙ less_self (row k)) (sym e)
  rank_found (k ∷ ks) h i (there m) q = rw (ap (less (row k)) (sym q) ∙ rising_first row k ks h i m) (rank_found ks (rising_tail row k ks h) i m q)

-- a new place is put at its rank
pub insert_at : (row : ℕ → List ℕ) (k : ℕ) (is : List ℕ) → insert row k is ≡ take (rank row (row k) is) is ++ (k ∷ drop (rank row (row k) is) is)
unfolding insert rank
insert_at row k [] = refl
insert_at row k (i ∷ is) = by (less (row i) (row k)) (insert_at row k is)
  where
    by : (b : Bool) → insert row k is ≡ take (rank row (row k) is) is ++ (k ∷ drop (rank row (row k) is) is)
        → (if b then i ∷ insert row k is else k ∷ i ∷ is) ≡ take (if b then suc (rank row (row k) is) else 0) (i ∷ is) ++ (k ∷ drop (if b then suc (rank row (row k) is) else 0) (i ∷ is))
    by true e = ap (λ (l : List ℕ). i ∷ l) e
    by false e = refl

pub mem_rank : (row : ℕ → List ℕ) (x : List ℕ) (is : List ℕ) → rising row is ≡ true → (i : ℕ) → Mem i is → row i ≡ x → rank row x is < length is
unfolding rank
mem_rank row x [] h i x4 q = elim x4 [ ]
mem_rank row x (k ∷ ks) h i (here e) q = rw (ap (less (row k)) (sym q) ∙ ap (λ (j : ℕ). less (row k) (row j)) e ∙ less_self (row k)) (omega arith)
mem_rank row x (k ∷ ks) h i (there m) q = rw (ap (less (row k)) (sym q) ∙ rising_first row k ks h i m) (omega (arith, mem_rank row x ks (rising_tail row k ks h) i m q))

-- ---- rows that agree have one order

module _ (row row' : ℕ → List ℕ) where
  pub insert_same : (k : ℕ) (is : List ℕ) → row k ≡ row' k → ((i : ℕ) → Mem i is → row i ≡ row' i) → insert row k is ≡ insert row' k is
  unfolding insert
  insert_same k [] e f = refl
  insert_same k (i ∷ is) e f = ap₂ (λ (b : Bool) (l : List ℕ). if b then i ∷ l else k ∷ i ∷ is) (ap₂ less (f i (here refl)) e) (insert_same k is e (λ j m. f j (there m)))

  pub order_same : (n : ℕ) → ((i : ℕ) → i < n → row i ≡ row' i) → order row n ≡ order row' n
  unfolding order
  order_same zero f = refl
  order_same (suc n) f =
      insert_same n (order row n) (f n (omega arith)) (λ i m. let l : i < n = order_below row n i m in f i (omega arith))
      ∙ ap (insert row' n) (order_same n (λ i l. f i (omega arith)))

  pub rank_same : (x : List ℕ) (is : List ℕ) → ((i : ℕ) → Mem i is → row i ≡ row' i) → rank row x is ≡ rank row' x is
  unfolding rank
  rank_same x [] f = refl
  rank_same x (i ∷ is) f = ap₂ (λ (b : Bool) (k : ℕ). if b then suc k else 0) (ap (λ (r : List ℕ). less r x) (f i (here refl))) (rank_same x is (λ j m. f j (there m)))

pub ordered_suc : (row : ℕ → List ℕ) (n : ℕ) → order row (suc n) ≡ insert row n (order row n)
unfolding order
ordered_suc row n = refl
