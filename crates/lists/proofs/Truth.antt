-- Conjunctions of tests, and tests of every element of a list. Assumes nothing.
use mathlib.Core.Path.{◌≡◌, refl, sym, ap, ap₂, ◌∙◌}
use mathlib.Core.Bool.{Bool, true, false, not, ◌&&◌, ◌||◌}
use mathlib.Core.List.{List, [], ◌∷◌, ◌++◌, map}
use Prim.Native.Nat.{ℕ, zero, suc, ◌/◌, ◌%◌, ◌<◌}
use native.Mathlib.Nat.{mod-eq_of_lt}
use native.Mathlib.Omega.{arith}
use borrow.Author.Tests.{eq-eqb, ne_eqb, lt-ltb, eqb-true, ltb-true, ltb-false}
use lib.Dec.{eqb, ltb}
use lib.ListN.{take, get_or}
use Rattle.std.specs.Prelude.{if◌then◌else◌}
use Rattle.rules.specs.Basic.{all, member, implies, word32}
use Rattle.rules.proofs.Logic.{all_mem, mem_all, member_mem}

-- two tests that pass together are one
pub same_truth : (a b : Bool) → (a ≡ true → b ≡ true) → (b ≡ true → a ≡ true) → a ≡ b
same_truth true b f g = sym (f refl)
same_truth false true f g = g refl
same_truth false false f g = refl

-- conjunctions of the same tests, each named by its place in a list, in any order and repeated at will
pub same_tests : (tests : List Bool) (xs ys : List ℕ) → all (λ i. member i ys) xs ≡ true → all (λ i. member i xs) ys ≡ true
    → all (λ i. get_or tests i true) xs ≡ all (λ i. get_or tests i true) ys
same_tests tests xs ys h k = same_truth _ _ (there_of xs ys k) (there_of ys xs h)
  where
    there_of : (us vs : List ℕ) → all (λ i. member i us) vs ≡ true → all (λ i. get_or tests i true) us ≡ true → all (λ i. get_or tests i true) vs ≡ true
    there_of us vs e t = mem_all _ vs (λ i m. all_mem (λ j. get_or tests j true) us t (member_mem i us (all_mem (λ j. member j us) vs e m)))

pub and_swap : (a b c d : Bool) → ((a && b) && (c && d)) ≡ ((a && c) && (b && d))
and_swap true b true d = refl
and_swap true true false d = refl
and_swap true false false d = refl
and_swap false b c d = refl

pub eqb_same : (n : ℕ) → eqb n n ≡ true
eqb_same n = eq-eqb n n refl

pub eqb_flip : (m n : ℕ) → eqb m n ≡ eqb n m
eqb_flip m n = same_truth _ _ (λ h. eq-eqb n m (sym (eqb-true m n h))) (λ h. eq-eqb m n (sym (eqb-true n m h)))

-- a word is below 2^32 where nothing stands above
pub narrow_none : (w : ℕ) → eqb (w / word32) 0 ≡ ltb w word32
narrow_none w = same_truth _ _ (λ h. lt-ltb w word32 (omega (arith, eqb-true))) (λ h. eq-eqb (w / word32) 0 (omega (arith, ltb-true)))

pub implies_or : (a b : Bool) → (not a || b) ≡ implies a b
unfolding implies
implies_or true b = refl
implies_or false b = refl

-- a test that no number of k or more passes needs no cut
pub uncut : (k : ℕ) (f : ℕ → Bool) → ((w : ℕ) → f w ≡ true → w < k) → (w : ℕ) → (ltb w k && f (w % k)) ≡ f w
uncut k f h w = by (ltb w k) (f w) refl refl
  where
    by : (b c : Bool) → ltb w k ≡ b → f w ≡ c → (b && f (w % k)) ≡ c
    by true c e g = ap f (mod-eq_of_lt (ltb-true w k e)) ∙ g
    by false true e g = absurd (let l : w < k = h w g in let n = ltb-false w k e in omega arith)
    by false false e g = refl

-- ---- a test of every element

module _ {A : Type 0} where
  pub all_cong : (p q : A → Bool) → ((x : A) → p x ≡ q x) → (xs : List A) → all p xs ≡ all q xs
  unfolding all
  all_cong p q h [] = refl
  all_cong p q h (x ∷ xs) = ap₂ (λ a b. a && b) (h x) (all_cong p q h xs)

  pub all_and : (p q : A → Bool) (xs : List A) → (all p xs && all q xs) ≡ all (λ x. p x && q x) xs
  unfolding all
  all_and p q [] = refl
  all_and p q (x ∷ xs) = and_swap (p x) (all p xs) (q x) (all q xs) ∙ ap (λ b. (p x && q x) && b) (all_and p q xs)

  pub all_holds : (p : A → Bool) → ((x : A) → p x ≡ true) → (xs : List A) → all p xs ≡ true
  unfolding all
  all_holds p h [] = refl
  all_holds p h (x ∷ xs) = ap₂ (λ a b. a && b) (h x) (all_holds p h xs)

  pub all_append : (p : A → Bool) (xs ys : List A) → all p (xs ++ ys) ≡ (all p xs && all p ys)
  unfolding all
  all_append p [] ys = refl
  all_append p (x ∷ xs) ys = by (p x) (all_append p xs ys)
    where
      by : (b : Bool) → all p (xs ++ ys) ≡ (all p xs && all p ys) → (b && all p (xs ++ ys)) ≡ ((b && all p xs) && all p ys)
      by true e = e
      by false e = refl

pub all_swap : {A B : Type 0} (f : A → B → Bool) (xs : List A) (ys : List B) → all (λ x. all (f x) ys) xs ≡ all (λ y. all (λ x. f x y) xs) ys
unfolding all
all_swap f [] ys = sym (all_holds (λ y. true) (λ y. refl) ys)
all_swap f (x ∷ xs) ys = ap (λ b. all (f x) ys && b) (all_swap f xs ys) ∙ all_and (f x) (λ y. all (λ x. f x y) xs) ys

pub all_map : {A B : Type 0} (f : A → B) (p : B → Bool) (xs : List A) → all p (map f xs) ≡ all (λ x. p (f x)) xs
unfolding all
all_map f p [] = refl
all_map f p (x ∷ xs) = ap (λ b. p (f x) && b) (all_map f p xs)

-- a list whose elements are all below k: the first n too
pub all_below_lem : (k : ℕ) (xs : List ℕ) → ((i : ℕ) → get_or xs i 0 < k) → (n : ℕ) → all (λ x. ltb x k) (take n xs) ≡ true
unfolding all
all_below_lem k xs h zero = refl
all_below_lem k [] h (suc n) = refl
all_below_lem k (x ∷ xs) h (suc n) = ap₂ (λ a b. a && b) (lt-ltb x k (h 0)) (all_below_lem k xs (λ i. h (suc i)) n)

-- ---- a branch on whether two numbers are equal

module _ {A : Type 0} (x y : ℕ) (a b : A) where
  pub if_other : (x ≡ y → ⊥) → b ≡ (if eqb x y then a else b)
  if_other e = sym (rw (ne_eqb x y e))
