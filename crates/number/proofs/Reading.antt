-- Laws of reading at a place of a list. Assumes nothing.
use Prim.Native.Nat.{ℕ, zero, suc, ◌+◌, ◌-◌, ◌*◌, ◌/◌, ◌≤◌, ◌<◌}
use native.Mathlib.Numerals.{add-one, sub-one}
use native.Mathlib.Omega.{arith}
use mathlib.Core.Path.{◌≡◌, refl, sym, ap, subst, ◌∙◌}
use mathlib.Core.Logic.{⊎_elim}
use mathlib.Core.List.{List, [], ◌∷◌}
use lib.ListN.{length, get_or, drop, drop_of_length-le}
use lib.Seq.{drop-cons}
use borrow.Author.Tests.{lt-ltb, le-ltb, le-leb, lt-leb, eq-eqb, ne_eqb}
use Rattle.rules.specs.Number.{Read, got, bad, longer, read_number}
use Rattle.rules.specs.Request.{Reader, follow, give, times, byte}
use Rattle.std.specs.Prelude.{Option, Some, None}
use Rattle.number.specs.Rest.{after}
use Rattle.number.specs.declared.Number.{Number}
use Rattle.number.specs.Meaning.{number_of, Bounds, NumberAt, LongerAt}
use Rattle.rules.proofs.Numbers.{below_or}

-- a rest above its own limit is too large behind b
pub longer_large : (limit b n : ℕ) (later : List ℕ) → limit / 128 < n → longer limit b (got n later) ≡ bad
unfolding longer
longer_large limit b n later k = simp (ne_eqb n 0 (omega arith), lt-ltb limit (b - 128 + 128 * n) (omega arith))

pub longer_narrow : (limit b : ℕ) (r : Read ℕ) → limit < 128 → longer limit b r ≡ bad
unfolding longer
longer_narrow limit b bad k = refl
longer_narrow limit b (got n later) k = ⊎_elim
    (λ z. simp (eq-eqb n 0 (omega arith)))
    (λ z. longer_large limit b n later (omega arith))
    (below_or n 1)

module _ (s : List ℕ) (at limit : ℕ) where
  pub read_none : length s ≤ at → NumberAt s at limit None
  unfolding read_number
  read_none h = record { means = rw (drop_of_length-le s h); bounds = tt }

  module _ (b : ℕ) (here : at < length s) (e : b ≡ get_or s at 0) where
    head : drop at s ≡ b ∷ drop (at + 1) s
    head = drop-cons s at 0 here ∙ ap (λ (n : ℕ). get_or s at 0 ∷ drop n s) (sym (add-one at)) ∙ ap (λ (x : ℕ). x ∷ drop (at + 1) s) (sym e)

    pub read_large : b < 128 → limit < b → NumberAt s at limit None
    unfolding read_number
    read_large l k = record { means = rw head (simp (lt-ltb b 128 l, lt-leb b limit k)); bounds = tt }

    pub read_one : b < 128 → b ≤ limit → NumberAt s at limit (Some (record { value = b; next = at + 1 }))
    unfolding read_number
    read_one l k = record { means = rw head (simp (lt-ltb b 128 l, le-leb b limit k)); bounds = (omega arith, omega arith, k) }

    -- b stands before what the bytes after it read as
    read_more : 128 ≤ b → longer limit b (read_number (limit / 128) (drop (at + 1) s)) ≡ read_number limit (drop at s)
    unfolding read_number
    read_more l = rw head (simp (le-ltb b 128 l))

    pub read_longer : (r : Option Number) → 128 ≤ b → LongerAt s (at + 1) limit b r → NumberAt s at limit r
    read_longer None l f = record { means = f.means ∙ read_more l; bounds = tt }
    read_longer (Some n) l f = record { means = f.means ∙ read_more l; bounds = (omega (arith, f.bounds), f.bounds.1, f.bounds.2) }

pub ruleset readings = (read_none, read_large, read_one, read_longer)

-- ---- what the reader's answer says, by its case

module _ (s : List ℕ) (at limit : ℕ) (r : Option Number) (f : NumberAt s at limit r) where
  pub is_bad : r ≡ None → bad ≡ read_number limit (drop at s)
  is_bad g = ap (number_of s) (sym g) ∙ f.means

  module _ (v q : ℕ) (g : r ≡ Some (record { value = v; next = q })) where
    pub is_value : got v (drop q s) ≡ read_number limit (drop at s)
    is_value = ap (number_of s) (sym g) ∙ f.means

    pub bounds : (at < q) × (q ≤ length s) × (v ≤ limit)
    bounds = subst (λ (x : Option Number). Bounds (length s) at limit x) g f.bounds

-- ---- what is left after a number of things

module _ {A : Type 0} (p : Reader A) where
  after_give : (a : A) (r : Read (List A)) → after (follow r (λ xs. give (a ∷ xs))) ≡ after r
  unfolding after follow give
  after_give a bad = refl
  after_give a (got xs bytes) = refl

  pub times_none : (n : ℕ) (bytes : List ℕ) → n ≤ 0 → Some bytes ≡ after (times n p bytes)
  unfolding after times give
  times_none zero bytes h = refl
  times_none (suc n) bytes h = absurd (omega arith)

  pub times_bad : (n : ℕ) (bytes : List ℕ) → 0 < n → bad ≡ p bytes → None ≡ after (times n p bytes)
  unfolding after times follow
  times_bad zero bytes h e = absurd (omega arith)
  times_bad (suc n) bytes h e = rw (sym e)

  pub times_suc : (n : ℕ) (bytes later : List ℕ) (a : A) → got a later ≡ p bytes → after (times n p later) ≡ after (times (suc n) p bytes)
  unfolding times follow
  times_suc n bytes later a e = rw (sym e) (sym (after_give a (times n p later)))

  pub times_more : (n : ℕ) (bytes later : List ℕ) (a : A) → 0 < n → got a later ≡ p bytes → after (times (n - 1) p later) ≡ after (times n p bytes)
  times_more zero bytes later a h e = absurd (omega arith)
  times_more (suc n) bytes later a h e = rw (sub-one (suc n)) (times_suc n bytes later a e)

-- n bytes below 128 are n numbers of a field that takes them all
pub short_numbers : (limit n : ℕ) (bytes : List ℕ) → 127 ≤ limit → n ≤ length bytes → ((k : ℕ) → k < n → get_or bytes k 0 < 128)
    → Some (drop n bytes) ≡ after (times n (read_number limit) bytes)
unfolding read_number
short_numbers limit zero bytes w h f = times_none (read_number limit) zero bytes (omega arith)
short_numbers limit (suc n) [] w h f = absurd (omega arith)
short_numbers limit (suc n) (b ∷ bytes) w h f =
    let l : b < 128 = f 0 (omega arith) in
    short_numbers limit n bytes w (omega arith) (λ k q. f (suc k) (omega arith))
    ∙ times_suc (read_number limit) n (b ∷ bytes) bytes b (simp (lt-ltb b 128 l, le-leb b limit (omega arith)))

-- n bytes are there, or too few
pub bytes_there : (n : ℕ) (bytes : List ℕ) → n ≤ length bytes → Some (drop n bytes) ≡ after (times n byte bytes)
unfolding byte
bytes_there zero bytes h = times_none byte zero bytes (omega arith)
bytes_there (suc n) [] h = absurd (omega arith)
bytes_there (suc n) (b ∷ bytes) h = bytes_there n bytes (omega arith) ∙ times_suc byte n (b ∷ bytes) bytes b refl

pub bytes_missing : (n : ℕ) (bytes : List ℕ) → length bytes < n → None ≡ after (times n byte bytes)
unfolding byte
bytes_missing zero bytes h = absurd (omega arith)
bytes_missing (suc n) [] h = times_bad byte (suc n) [] (omega arith) refl
bytes_missing (suc n) (b ∷ bytes) h = bytes_missing n bytes (omega arith) ∙ times_suc byte n (b ∷ bytes) bytes b refl
