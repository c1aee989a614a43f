-- The numbers that stand in bytes, as the layouts read them, and an iterator that gives them. Assumes nothing.
use Rattle.std.proofs.Common.{◌≡◌, ℕ, zero, suc, ◌-◌, ◌≤◌, ◌<◌, List, [], ◌∷◌, length, take, drop, get_or, length-take, arith, refl, ap, sym, ◌∙◌}
use native.Mathlib.Numerals.{sub-one}
use Rattle.std.specs.Prelude.{Option, None, Some}
use Rattle.std.specs.Iterator.{YieldsFirst, Yields}
use Rattle.std.proofs.lemmas.List.{map-id}
use Rattle.std.proofs.lemmas.Iterator.{YieldsList}
use Rattle.std.proofs.lemmas.Iterator.Consumers.{YieldsList-from_first, YieldsList-so_far, YieldsList-turn, YieldsList-end}
use Rattle.rules.specs.Number.{Read, got, bad, max32}
use Rattle.rules.specs.Request.{follow, give, times, u32}
use Rattle.number.specs.declared.Number.{Number}
use Rattle.number.specs.Meaning.{NumberAt}
use Rattle.copy.specs.Numbers.{before, numbers_in, numbers_left}
use Rattle.copy.specs.declared.numbers.Numbers.{Numbers}

-- ---- in bytes

-- they are all there
pub numbers_got : (n : ℕ) (bytes : List ℕ) {xs later : List ℕ} → times n u32 bytes ≡ got xs later → numbers_in n bytes ≡ xs
unfolding times numbers_in follow give
numbers_got zero bytes {xs} {later} e = let g : got [] bytes ≡ got xs later = e in cc
numbers_got (suc n) bytes {xs} {later} e = by (λ l ys m d. numbers_got n l d) (u32 bytes) e
  where
    rest : (v : ℕ) (r : Read (List ℕ)) {ns : List ℕ} → ((ys m : List ℕ) → r ≡ got ys m → ns ≡ ys) → follow r (λ vs. give (v ∷ vs)) ≡ got xs later → v ∷ ns ≡ xs
    rest v (got vs m) {ns} h f = let g : got (v ∷ vs) m ≡ got xs later = f in let q : ns ≡ vs = h vs m refl in cc
    rest v bad h f = let g : ◌≡◌ {A = Read (List ℕ)} bad (got xs later) = f in cc

    by : ((l ys m : List ℕ) → times n u32 l ≡ got ys m → numbers_in n l ≡ ys) → (x : Read ℕ)
        → follow x (λ v l. follow (times n u32 l) (λ vs. give (v ∷ vs))) ≡ got xs later → before (numbers_in n) x ≡ xs
    by more (got v l) d = rest v (times n u32 l) (more l) d
    by more bad d = let g : ◌≡◌ {A = Read (List ℕ)} bad (got xs later) = d in cc

-- by a number that is their count
pub all_got : (n : ℕ) (bytes : List ℕ) {many : ℕ} {ns xs later : List ℕ} → ns ≡ numbers_in many bytes → many ≡ n → times n u32 bytes ≡ got xs later → ns ≡ xs
all_got n bytes all_of same e = all_of ∙ ap (λ (k : ℕ). numbers_in k bytes) same ∙ numbers_got n bytes e

-- no more than are asked for
pub numbers_few : (n : ℕ) (bytes : List ℕ) → length (numbers_in n bytes) ≤ n
unfolding numbers_in
numbers_few zero bytes = omega arith
numbers_few (suc n) bytes = by (λ l. numbers_few n l) (u32 bytes)
  where
    by : ((l : List ℕ) → length (numbers_in n l) ≤ n) → (x : Read ℕ) → length (before (numbers_in n) x) ≤ suc n
    by few (got v l) = omega (arith, few l)
    by few bad = omega arith

pub numbers_none : (n : ℕ) (bytes : List ℕ) → n < 1 → numbers_in n bytes ≡ []
unfolding numbers_in
numbers_none zero bytes h = refl
numbers_none (suc n) bytes h = absurd (omega arith)

module _ {s : List ℕ} {at : ℕ} where
  pub numbers_lost : (n : ℕ) → NumberAt s at max32 None → numbers_in n (drop at s) ≡ []
  unfolding numbers_in u32
  numbers_lost zero f = refl
  numbers_lost (suc n) f = rw (← f.means)

  pub numbers_next : (n m : ℕ) (x : Number) → 1 ≤ n → m ≡ n - 1 → NumberAt s at max32 (Some x) → numbers_in n (drop at s) ≡ x.value ∷ numbers_in m (drop x.next s)
  unfolding numbers_in u32
  numbers_next zero m x h e f = absurd (omega arith)
  numbers_next (suc n) m x h e f = rw (← f.means, e, sub-one (suc n))

  pub numbers_fewer : (n m : ℕ) (x : Number) → 1 ≤ n → m ≡ n - 1 → NumberAt s at max32 (Some x) → length (numbers_in m (drop x.next s)) < length (numbers_in n (drop at s))
  numbers_fewer n m x h e f = let l = ap length (numbers_next n m x h e f) in omega arith

-- ---- by the iterator, which gave xs so far

pub left_few : (it : Numbers) → length (numbers_left it) ≤ it.left
unfolding numbers_left
left_few it = numbers_few it.left (drop it.at it.body.now)

module _ (all : List ℕ) (s : Numbers) (e : numbers_left s ≡ all) where
  pub numbers_yield : YieldsList (YieldsFirst numbers_left) (λ (x : ℕ). x) s all
  numbers_yield = YieldsList-from_first (λ (x : ℕ). x) numbers_left all e

  module _ (xs : List ℕ) (t : Numbers) (y : Yields (YieldsFirst numbers_left) s xs t) where
    pub yielded_first : xs ≡ take (length xs) all
    yielded_first = sym (map-id xs) ∙ YieldsList-so_far numbers_yield xs t y

    pub yielded_few : length xs ≤ length all
    yielded_few = let l : length xs ≡ length (take (length xs) all) = ap length yielded_first in omega (arith, length-take (length xs) all)

    module _ (r : Option ℕ) (u : Numbers) (g : YieldsFirst numbers_left t r u) where
      pub yielded_here : (x : ℕ) → r ≡ Some x → (length xs < length all) × (x ≡ get_or all (length xs) x)
      yielded_here x f = YieldsList-turn numbers_yield xs t y r u x f g

      pub yielded_all : r ≡ None → xs ≡ all
      yielded_all f = sym (map-id xs) ∙ (YieldsList-end numbers_yield xs t y r u f g).0
