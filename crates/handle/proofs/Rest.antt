-- A loop over an array from its front: what it has so far, joined with the value of what is left, is the goal, the value of the whole.
-- Assumes nothing.
use mathlib.Core.Path.{◌≡◌, refl, sym, ap, ◌∙◌}
use mathlib.Core.Bool.{Bool, true, false, ◌||◌}
use mathlib.Core.List.{List, [], ◌∷◌}
use Prim.Native.Nat.{ℕ, zero, suc, ◌+◌, ◌≤◌, ◌<◌}
use native.Mathlib.Numerals.{add-one}
use native.Mathlib.Omega.{arith}
use lib.ListN.{length, drop, get_or}
use lib.Seq.{drop-cons}
use Rattle.std.specs.Prelude.{if◌then◌else◌, Option, Some, None, unwrap_or, IfSome}
use Rattle.handle.specs.First.{FirstOf}

module _ {A B : Type 0} where
  pub record Rest (value : List A → B) (join : B → B) (xs : List A) (n : ℕ) (goal : B) (i : ℕ) : Type 0 where
    pub long : length xs ≡ n
    pub within : i ≤ n
    pub whole : join (value (drop i xs)) ≡ goal

  module _ {value : List A → B} {join : B → B} {xs : List A} {n : ℕ} {goal : B} {i : ℕ} where
    pub rest_more : (d : A) (next : B → B) → Rest value join xs n goal i → i < n
        → ((ys : List A) → next (value ys) ≡ join (value (get_or xs i d ∷ ys))) → Rest value next xs n goal (i + 1)
    rest_more d next r h step = record {
      long = r.long;
      within = omega arith;
      whole =
          ap (λ (k : ℕ). next (value (drop k xs))) (add-one i)
          ∙ step (drop (suc i) xs)
          ∙ ap (λ (ys : List A). join (value ys)) (sym (drop-cons xs i d (omega arith)))
          ∙ r.whole;
    }

-- ---- the first element that passes a test

module _ {A : Type 0} where
  -- value is that element's index, or the length
  pub record First (p : A → Bool) (value : List A → ℕ) : Type 0 where
    pub none : value [] ≡ zero
    pub step : (x : A) (ys : List A) → value (x ∷ ys) ≡ (if p x then zero else suc (value ys))

  -- the first place that passes is its index; d is what `get_or` gives past the end
  module _ {p : A → Bool} {value : List A → ℕ} (f : First p value) (d : A) where
    index_at : (xs : List A) (k : ℕ) → k ≤ length xs → ((j : ℕ) → j < k → p (get_or xs j d) ≡ false) → (k < length xs → p (get_or xs k d) ≡ true) → k ≡ value xs
    index_at [] k l before here = let z : value [] ≡ zero = f.none in omega arith
    index_at (x ∷ xs) zero l before here = sym (f.step x xs ∙ ap (λ b. if b then zero else suc (value xs)) (here (omega arith)))
    index_at (x ∷ xs) (suc k) l before here =
        ap suc (index_at xs k (omega arith) (λ j h. before (suc j) (omega arith)) (λ h. here (omega arith)))
        ∙ sym (f.step x xs ∙ ap (λ b. if b then zero else suc (value xs)) (before zero (omega arith)))

    pub first_index : (xs : List A) {n : ℕ} → length xs ≡ n → {says : ℕ → Bool → Type 0} → ((k : ℕ) (b : Bool) → k < n → says k b → b ≡ p (get_or xs k d)) → {r : Option ℕ} → FirstOf says n r → unwrap_or r n ≡ value xs
    first_index xs {n} l says {r = None} t = index_at xs n (omega arith) (λ j h. sym (says j false h (t.before j h))) (λ h. absurd (omega arith))
    first_index xs {n} l says {r = Some k} t =
        let in_range = t.here.0 in
        index_at xs k (omega arith) (λ j h. sym (says j false (omega arith) (t.before j h))) (λ h. sym (says k true in_range t.here.1))

pub first_within : {says : ℕ → Bool → Type 0} {n : ℕ} {r : Option ℕ} → FirstOf says n r → IfSome r (λ k. k < n)
first_within {r = None} t = tt
first_within {r = Some k} t = t.here.0

-- ---- whether some element passes a test

or_assoc : (a b c : Bool) → (a || b || c) ≡ (a || (b || c))
or_assoc true b c = refl
or_assoc false b c = refl

module _ {A : Type 0} where
  pub record Any (p : A → Bool) (value : List A → Bool) : Type 0 where
    pub none : value [] ≡ false
    pub step : (x : A) (ys : List A) → value (x ∷ ys) ≡ (p x || value ys)

  -- got: one of the first i passes
  pub record Gathering (p : A → Bool) (value : List A → Bool) (d : A) (xs : List A) (n : ℕ) (goal got : Bool) (i : ℕ) : Type 0 where
    pub some : Any p value
    pub rest : Rest value (λ b. got || b) xs n goal i

  module _ {p : A → Bool} {value : List A → Bool} {d : A} {xs : List A} {n : ℕ} {goal got : Bool} {i : ℕ} where
    pub gather_more : {b : Bool} → Gathering p value d xs n goal got i → i < n → b ≡ p (get_or xs i d) → Gathering p value d xs n goal (got || b) (i + 1)
    gather_more {b} g h e = record {
      some = g.some;
      rest = rest_more d (λ r. got || b || r) g.rest h (λ ys.
          or_assoc got b (value ys) ∙ ap (λ c. got || (c || value ys)) e ∙ ap (λ c. got || c) (sym (g.some.step (get_or xs i d) ys)));
    }
