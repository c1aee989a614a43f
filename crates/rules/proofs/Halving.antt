-- The laws of the halvings: at most nine looks at 256 places; only the records looked at matter; in a list that is in the order of the tests
-- nothing is missed. Assumes nothing.
use Prim.Native.Nat.{ℕ, zero, suc, ◌+◌, ◌-◌, ◌/◌, ◌≤◌, ◌<◌}
use native.Mathlib.Omega.{arith}
use mathlib.Core.Path.{◌≡◌, refl, ap, ◌∙◌}
use mathlib.Core.Bool.{Bool, true, false, ◌&&◌}
use mathlib.Core.List.{List}
use lib.Dec.{eqb}
use lib.ListN.{length, get_or}
use borrow.Author.Tests.{eqb-true}
use Rattle.std.specs.Prelude.{if◌then◌else◌}
use Rattle.rules.specs.Halving.{Sought, Looked, ends, after, halved, search, records_at}

-- so many places are halved k times at most: 2^k - 1
unfoldable top : ℕ → ℕ
top zero = zero
top (suc k) = suc (top k + top k)

module _ {A : Type 0} (t : Sought A) (d : A) where
  -- what a look at place m leaves to do, by what the tests say of its record
  abbrev rest : List A → (none f low size m : ℕ) → Bool → Bool → Bool → Looked
  rest xs none f low size m hit own later =
      if hit then ends (if own then m else none) else if later then halved t d xs none f (m + 1) (size - size / 2 - 1) else halved t d xs none f low (size / 2)

  -- ---- at most k looks at 2^k - 1 places

  few_rest : (xs : List A) (k none f low size m : ℕ) → length (halved t d xs none f (m + 1) (size - size / 2 - 1)).looks ≤ k → length (halved t d xs none f low (size / 2)).looks ≤ k
      → (a b c : Bool) → length (rest xs none f low size m a b c).looks ≤ k
  unfolding ends
  few_rest xs k none f low size m l r true b c = omega arith
  few_rest xs k none f low size m l r false b true = l
  few_rest xs k none f low size m l r false b false = r

  few_by : (k none m : ℕ) (r : Looked) (z : Bool) → length r.looks ≤ k → length (if z then ends none else after m r).looks ≤ suc k
  unfolding ends after
  few_by k none m r true h = omega arith
  few_by k none m r false h = omega arith

  few : (xs : List A) (k none f low size : ℕ) → size ≤ top k → length (halved t d xs none f low size).looks ≤ k
  unfolding halved ends top
  few xs k none zero low size h = omega arith
  few xs zero none (suc f) low zero h = omega arith
  few xs zero none (suc f) low (suc size) h = absurd (omega arith)
  few xs (suc k) none (suc f) low size h =
      let x : A = get_or xs (low + size / 2) d in
      few_by k none (low + size / 2) _ (eqb size 0)
      (few_rest xs k none f low size (low + size / 2) (few xs k none f (low + size / 2 + 1) (size - size / 2 - 1) (omega arith)) (few xs k none f low (size / 2) (omega arith)) (t.hits x) (t.owned x) (t.later x))

  pub nine_looks : (xs : List A) (none n : ℕ) → n ≤ 256 → length (search t d xs none n).looks ≤ 9
  unfolding search top
  nine_looks xs none n h = few xs 9 none n 0 n (omega arith)

  -- ---- only the records looked at matter

  module _ (xs ys : List A) where
    abbrev Same : List ℕ → Type 0
    Same ps = records_at d xs ps ≡ records_at d ys ps

    same_rest : (none f low size m : ℕ)
        → (Same (halved t d xs none f (m + 1) (size - size / 2 - 1)).looks → halved t d xs none f (m + 1) (size - size / 2 - 1) ≡ halved t d ys none f (m + 1) (size - size / 2 - 1))
        → (Same (halved t d xs none f low (size / 2)).looks → halved t d xs none f low (size / 2) ≡ halved t d ys none f low (size / 2))
        → (a b c : Bool) → Same (rest xs none f low size m a b c).looks → rest xs none f low size m a b c ≡ rest ys none f low size m a b c
    same_rest none f low size m l r true b c q = refl
    same_rest none f low size m l r false b true q = l q
    same_rest none f low size m l r false b false q = r q

    same_by : (none f low size m : ℕ) (z : Bool)
        → ((a b c : Bool) → Same (rest xs none f low size m a b c).looks → rest xs none f low size m a b c ≡ rest ys none f low size m a b c)
        → let x = get_or xs m d in let y = get_or ys m d in
        Same (if z then ends none else after m (rest xs none f low size m (t.hits x) (t.owned x) (t.later x))).looks
        → (if z then ends none else after m (rest xs none f low size m (t.hits x) (t.owned x) (t.later x))) ≡ (if z then ends none else after m (rest ys none f low size m (t.hits y) (t.owned y) (t.later y)))
    unfolding records_at after
    same_by none f low size m true go q = refl
    same_by none f low size m false go q =
        let x = get_or xs m d in
        let y = get_or ys m d in
        let here : x ≡ y = cc in
        let others : Same (rest xs none f low size m (t.hits x) (t.owned x) (t.later x)).looks = cc in
        ap (after m) (go (t.hits x) (t.owned x) (t.later x) others)
        ∙ ap (λ (w : A). after m (rest ys none f low size m (t.hits w) (t.owned w) (t.later w))) here

    same : (none f low size : ℕ) → Same (halved t d xs none f low size).looks → halved t d xs none f low size ≡ halved t d ys none f low size
    unfolding halved
    same none zero low size q = refl
    same none (suc f) low size q =
        same_by none f low size (low + size / 2) (eqb size 0)
        (same_rest none f low size (low + size / 2) (λ h. same none f (low + size / 2 + 1) (size - size / 2 - 1) h) (λ h. same none f low (size / 2) h))
        q

    -- another list, rising or not, with the same records where the search looks: the same places are looked at, and the answer is the same
    pub same_answer : (none n : ℕ) → Same (search t d xs none n).looks → search t d xs none n ≡ search t d ys none n
    unfolding search
    same_answer none n q = same none n 0 n q

-- ---- a list in the order of the tests

pub record Sorted {A : Type 0} (t : Sought A) (d : A) (xs : List A) (n : ℕ) : Type 0 where
  pub once : (i j : ℕ) → i < n → j < n → t.hits (get_or xs i d) ≡ true → t.hits (get_or xs j d) ≡ true → i ≡ j
  pub up : (i j : ℕ) → i < n → j < n → t.later (get_or xs i d) ≡ true → t.hits (get_or xs j d) ≡ true → i < j
  pub down : (i j : ℕ) → i < n → j < n → t.hits (get_or xs i d) ≡ false → t.later (get_or xs i d) ≡ false → t.hits (get_or xs j d) ≡ true → j < i

module _ {A : Type 0} (t : Sought A) (d : A) (xs : List A) (none n : ℕ) where
  abbrev at : ℕ → A
  at i = get_or xs i d

  -- what is left after a look at the middle
  more : (f low size : ℕ) → 0 < size → let m = low + size / 2 in
      (halved t d xs none (suc f) low size).place ≡ (rest t d xs none f low size m (t.hits (at m)) (t.owned (at m)) (t.later (at m))).place
  unfolding halved after
  more f low size h = by (eqb size 0) refl
    where
      left : Looked
      left = let m = low + size / 2 in rest t d xs none f low size m (t.hits (at m)) (t.owned (at m)) (t.later (at m))

      by : (z : Bool) → eqb size 0 ≡ z → (if z then ends none else after (low + size / 2) left).place ≡ left.place
      by true e = absurd (omega (arith, eqb-true size 0 e))
      by false e = refl

  -- what stands among the places is found
  pub found_in : Sorted t d xs n → (j f low size : ℕ) → size ≤ f → low + size ≤ n → low ≤ j → j < low + size → t.hits (at j) ≡ true → t.owned (at j) ≡ true → (halved t d xs none f low size).place ≡ j
  unfolding ends
  found_in o j zero low size e w l u h own = absurd (omega arith)
  found_in o j (suc f) low size e w l u h own =
      more f low size (omega arith)
      ∙ by (t.hits (at m)) (t.later (at m)) refl refl
      (λ (lt : m < j). found_in o j f (m + 1) (size - size / 2 - 1) (omega arith) (omega arith) (omega arith) (omega arith) h own)
      (λ (gt : j < m). found_in o j f low (size / 2) (omega arith) (omega arith) l (omega arith) h own)
    where
      m : ℕ
      m = low + size / 2

      by : (a c : Bool) → t.hits (at m) ≡ a → t.later (at m) ≡ c
          → (m < j → (halved t d xs none f (m + 1) (size - size / 2 - 1)).place ≡ j) → (j < m → (halved t d xs none f low (size / 2)).place ≡ j)
          → (rest t d xs none f low size m a (t.owned (at m)) c).place ≡ j
      by true c p q r s =
          let same : m ≡ j = o.once m j (omega arith) (omega arith) p h in
          ap (λ (b : Bool). if b then m else none) (ap (λ (i : ℕ). t.owned (at i)) same ∙ own) ∙ same
      by false true p q r s = r (o.up m j (omega arith) (omega arith) q h)
      by false false p q r s = s (o.down m j (omega arith) (omega arith) p q h)

  -- where none is among them, none is found
  pub lost_in : ((i : ℕ) → i < n → (t.hits (at i) && t.owned (at i)) ≡ false) → (f low size : ℕ) → low + size ≤ n → (halved t d xs none f low size).place ≡ none
  unfolding halved ends
  lost_in nowhere zero low size w = refl
  lost_in nowhere (suc f) low zero w = refl
  lost_in nowhere (suc f) low (suc s) w =
      more f low (suc s) (omega arith)
      ∙ by (t.hits (at m)) (t.owned (at m)) (t.later (at m)) (nowhere m (omega arith)) (lost_in nowhere f (m + 1) (suc s - suc s / 2 - 1) (omega arith)) (lost_in nowhere f low (suc s / 2) (omega arith))
    where
      m : ℕ
      m = low + suc s / 2

      by : (a b c : Bool) → (a && b) ≡ false → (halved t d xs none f (m + 1) (suc s - suc s / 2 - 1)).place ≡ none → (halved t d xs none f low (suc s / 2)).place ≡ none → (rest t d xs none f low (suc s) m a b c).place ≡ none
      by true true c e l r = let z : ◌≡◌ {A = ℕ} 0 1 = cc in absurd (omega arith)
      by true false c e l r = refl
      by false b true e l r = l
      by false b false e l r = r
