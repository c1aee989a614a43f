-- More input changes nothing that was said of the input before it, and few bytes wait for more. Assumes nothing.
use Prim.Native.Nat.{ℕ, zero, suc, ◌+◌, ◌*◌, ◌-◌, ◌/◌, ◌^◌, ◌≤◌, ◌<◌}
use native.Mathlib.Nat.{pow-succ'}
use native.Mathlib.Omega.{arith}
use mathlib.Core.Path.{◌≡◌, refl, sym, ap, ◌∙◌}
use mathlib.Core.Logic.{⊎_elim}
use mathlib.Core.Bool.{Bool, true, false, ◌&&◌, ◌||◌}
use mathlib.Core.List.{List, [], ◌∷◌, ◌++◌}
use lib.ListN.{length, take, drop, length-append}
use lib.Dec.{eqb, leb, ltb}
use lib.Seq.{take-append-le, drop-append-le}
use borrow.Author.Tests.{lt-ltb, le-ltb, le-leb, ltb-false}
use Rattle.std.specs.Prelude.{if◌then◌else◌}
use Rattle.rules.specs.Basic.{all}
use Rattle.rules.specs.Number.{Read, got, bad, longer, max32, read_number}
use Rattle.rules.proofs.Numbers.{below_or, by_reading}
use Rattle.number.proofs.Reading.{longer_narrow}
use Rattle.session.specs.Program.{Next, chunk, more, stop, max_chunk, number_bytes, is_cut, no_number, on_number, with_number, of_length, next}
use Rattle.session.specs.Blocks.{joined}

-- ---- a number

-- more bytes stand after what was read
abbrev before : List ℕ → Read ℕ → Read ℕ
before ys bad = bad
before ys (got n rest) = got n (rest ++ ys)

longer_before : (top b : ℕ) (ys : List ℕ) (r : Read ℕ) → longer top b (before ys r) ≡ before ys (longer top b r)
unfolding longer
longer_before top b ys bad = refl
longer_before top b ys (got n rest) = by (eqb n 0 || ltb top (b - 128 + 128 * n))
  where
    by : (t : Bool) → (if t then bad else got (b - 128 + 128 * n) (rest ++ ys)) ≡ before ys (if t then bad else got (b - 128 + 128 * n) rest)
    by true = refl
    by false = refl

-- the bytes are not the first ones of a longer number, of at most k bytes
abbrev Told : ℕ → List ℕ → Type 0
Told k xs = (ltb (length xs) k && all (leb 128) xs) ≡ false

told_rest : (k b : ℕ) (xs : List ℕ) → 128 ≤ b → Told (suc k) (b ∷ xs) → Told k xs
unfolding all
told_rest k b xs l t = ⊎_elim
    (λ h. simp (lt-ltb (length xs) k h) (simp (lt-ltb (suc (length xs)) (suc k) (omega arith), le-leb 128 b l) at t))
    (λ h. simp (le-ltb (length xs) k h))
    (below_or (length xs) k)

not_told : (k : ℕ) → Told (suc k) [] → ⊥
unfolding all
not_told k t = let z : ◌≡◌ {A = Bool} true false = simp (lt-ltb 0 (suc k) (omega arith)) at t in let y : ◌≡◌ {A = ℕ} 0 1 = cc in omega arith

-- a number that was read, or told to be none, stays so
read_on : (k top : ℕ) (xs ys : List ℕ) → top < 128 ^ suc k → (read_number top xs ≡ bad → Told (suc k) xs) → read_number top (xs ++ ys) ≡ before ys (read_number top xs)
unfolding read_number longer
read_on k top [] ys w t = absurd (not_told k (t refl))
read_on k top (b ∷ xs) ys w t = ⊎_elim
    (λ l. simp (lt-ltb b 128 l) (one (leb b top)))
    (λ l. simp (le-ltb b 128 l) (on k (λ j. read_on j (top / 128) xs ys) l w (simp (le-ltb b 128 l) at t)))
    (below_or b 128)
  where
    one : (u : Bool) → (if u then got b (xs ++ ys) else bad) ≡ before ys (if u then got b xs else bad)
    one true = refl
    one false = refl

    on : (k : ℕ) → ((j : ℕ) → top / 128 < 128 ^ suc j → (read_number (top / 128) xs ≡ bad → Told (suc j) xs) → read_number (top / 128) (xs ++ ys) ≡ before ys (read_number (top / 128) xs))
        → 128 ≤ b → top < 128 ^ suc k → (longer top b (read_number (top / 128) xs) ≡ bad → Told (suc k) (b ∷ xs))
        → longer top b (read_number (top / 128) (xs ++ ys)) ≡ before ys (longer top b (read_number (top / 128) xs))
    on zero ih l w t = longer_narrow top b (read_number (top / 128) (xs ++ ys)) (omega arith) ∙ ap (before ys) (sym (longer_narrow top b (read_number (top / 128) xs) (omega arith)))
    on (suc k) ih l w t =
        ap (longer top b) (ih k (omega (arith, pow-succ' 128 (suc k))) (λ e. told_rest (suc k) b xs l (t (ap (longer top b) e))))
        ∙ longer_before top b ys (read_number (top / 128) xs)

-- a number takes at most k + 1 bytes
abbrev pub Short : ℕ → List ℕ → Read ℕ → Type 0
Short top bytes bad = Unit {0}
Short top bytes (got n rest) = (k : ℕ) → top < 128 ^ suc k → length bytes ≤ length rest + suc k

pub read_short : (top : ℕ) (bytes : List ℕ) → Short top bytes (read_number top bytes)
read_short = by_reading Short (λ top bytes. tt) (λ top b bytes l h k w. omega arith) longer_one
  where
    longer_one : (top b n : ℕ) (bytes rest : List ℕ) → 128 ≤ b → 0 < n → b - 128 + 128 * n ≤ top → Short (top / 128) bytes (got n rest) → Short top (b ∷ bytes) (got (b - 128 + 128 * n) rest)
    longer_one top b n bytes rest l z h f zero w = absurd (omega arith)
    longer_one top b n bytes rest l z h f (suc k) w = omega (arith, f k (omega (arith, pow-succ' 128 (suc k))))

-- ---- the next chunk

not_more : (b : Bool) (x : Next) → ((if b then more else x) ≡ more → ⊥) → b ≡ false
not_more true x h = absurd (h refl)
not_more false x h = refl

all_on : (xs ys : List ℕ) → all (leb 128) xs ≡ false → all (leb 128) (xs ++ ys) ≡ false
unfolding all
all_on [] ys e = let y : ◌≡◌ {A = ℕ} 0 1 = cc in absurd (omega arith)
all_on (x ∷ xs) ys e = by (leb 128 x) (all_on xs ys) e
  where
    by : (b : Bool) → (all (leb 128) xs ≡ false → all (leb 128) (xs ++ ys) ≡ false) → (b && all (leb 128) xs) ≡ false → (b && all (leb 128) (xs ++ ys)) ≡ false
    by true ih e = ih e
    by false ih e = refl

cut_on : (xs ys : List ℕ) → is_cut xs ≡ false → is_cut (xs ++ ys) ≡ false
unfolding is_cut
cut_on xs ys e = ⊎_elim
    (λ h. simp (lt-ltb (length (xs ++ ys)) number_bytes h) (all_on xs ys (simp (lt-ltb (length xs) number_bytes (omega (arith, length-append xs ys))) at e)))
    (λ h. simp (le-ltb (length (xs ++ ys)) number_bytes h))
    (below_or (length (xs ++ ys)) number_bytes)

-- what follows from a number is not changed by more input
abbrev Lasts : List ℕ → (ℕ → List ℕ → Next) → Type 0
Lasts ys go = (n : ℕ) (rest : List ℕ) → (go n rest ≡ more → ⊥) → go n (rest ++ ys) ≡ joined ys (go n rest)

module _ (ys : List ℕ) where
  number_lasts : (go : ℕ → List ℕ → Next) → Lasts ys go → (xs : List ℕ) → (with_number xs go ≡ more → ⊥) → with_number (xs ++ ys) go ≡ joined ys (with_number xs go)
  unfolding with_number on_number no_number joined is_cut
  number_lasts go f xs = by (read_number max32 xs) refl
    where
      by : (r : Read ℕ) → read_number max32 xs ≡ r → (on_number xs go r ≡ more → ⊥) → on_number (xs ++ ys) go (read_number max32 (xs ++ ys)) ≡ joined ys (on_number xs go r)
      by bad e h =
          let k = not_more (is_cut xs) stop h in
          ap (on_number (xs ++ ys) go) (read_on 4 max32 xs ys (omega arith) (λ z. k) ∙ ap (before ys) e)
          ∙ simp (k, cut_on xs ys k)
      by (got n rest) e h =
          ap (on_number (xs ++ ys) go) (read_on 4 max32 xs ys (omega arith) (λ z. let y : ◌≡◌ {A = ℕ} 0 1 = cc in absurd (omega arith)) ∙ ap (before ys) e)
          ∙ f n rest h

  length_lasts : (s : ℕ) → Lasts ys (of_length s)
  unfolding of_length joined
  length_lasts s n rest h = ⊎_elim
      (λ l. simp (lt-ltb max_chunk n l))
      (λ l. simp (le-ltb max_chunk n l) (enough (not_more (ltb (length rest) n) _ (simp (le-ltb max_chunk n l) at h))))
      (below_or max_chunk n)
    where
      enough : ltb (length rest) n ≡ false
          → (if ltb (length (rest ++ ys)) n then more else chunk s (take n (rest ++ ys)) (drop n (rest ++ ys)))
          ≡ joined ys (if ltb (length rest) n then more else chunk s (take n rest) (drop n rest))
      enough e = simp (e, le-ltb (length (rest ++ ys)) n (omega (arith, ltb-false (length rest) n e, length-append rest ys)), take-append-le n rest ys (ltb-false (length rest) n e), drop-append-le n rest ys (ltb-false (length rest) n e))

  -- a chunk or a stop stays what it is
  pub lasts : (xs : List ℕ) → (next xs ≡ more → ⊥) → next (xs ++ ys) ≡ joined ys (next xs)
  unfolding next
  lasts xs h = number_lasts (λ s bytes. with_number bytes (of_length s)) (λ s bytes. number_lasts (of_length s) (length_lasts s) bytes) xs h
