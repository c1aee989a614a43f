-- Laws of numbers on the line, each once for every value, largest value and width. Assumes nothing.
use Prim.Native.Nat.{ℕ, zero, suc, ◌+◌, ◌-◌, ◌*◌, ◌/◌, ◌%◌, ◌^◌, ◌≤◌, ◌<◌}
use native.Mathlib.Nat.{le_refl}
use native.Mathlib.Omega.{arith}
use mathlib.Core.Path.{◌≡◌, refl, ap, subst, ◌∙◌}
use mathlib.Core.Bool.{Bool, true, false}
use mathlib.Core.Logic.{◌⊎◌, inl, inr, ⊎_elim}
use mathlib.Core.List.{List, [], ◌∷◌, ◌++◌}
use lib.Dec.{ltb}
use lib.ListN.{length}
use lib.Pow.{pow_mono, shr_lt}
use borrow.Author.Tests.{ltb-true, ltb-false, lt-ltb, le-ltb, le-leb, lt-leb, eq-eqb, ne_eqb}
use Rattle.rules.specs.Basic.{all}
use Rattle.rules.specs.Number.{encode_in, low_first, encode, encode_all, Read, got, bad, longer, read_number}
use Rattle.rules.specs.Valid.{is_byte}
use Rattle.rules.proofs.Logic.{and_l, and_r, and_i, all_append}

pub below_or : (a b : ℕ) → (a < b) ⊎ (b ≤ a)
below_or a b = go (ltb a b) refl
  where
    go : (t : Bool) → ltb a b ≡ t → (a < b) ⊎ (b ≤ a)
    go true e = inl (ltb-true a b e)
    go false e = inr (ltb-false a b e)

-- induction on a number's bytes
pub by_bytes : (P : ℕ → Type 0) → ((n : ℕ) → n < 128 → P n) → ((n : ℕ) → 128 ≤ n → P (n / 128) → P n) → (n : ℕ) → P n
by_bytes P one more n = go n n (le_refl n)
  where
    go : (k n : ℕ) → n ≤ k → P n
    go zero n h = one n (omega arith)
    go (suc k) n h = ⊎_elim (λ l. one n l) (λ l. more n l (go k (n / 128) (omega arith))) (below_or n 128)

-- ---- written

-- room for more bytes than a number takes changes nothing
enough : (j k n : ℕ) → n ≤ j → n ≤ k → encode_in j n ≡ encode_in k n
unfolding encode_in low_first
enough zero zero n hj hk = refl
enough zero (suc k) n hj hk = let l : n < 128 = omega arith in simp (lt-ltb n 128 l)
enough (suc j) zero n hj hk = let l : n < 128 = omega arith in simp (lt-ltb n 128 l)
enough (suc j) (suc k) n hj hk =
    ⊎_elim (λ l. simp (lt-ltb n 128 l)) (λ l. simp (le-ltb n 128 l) (ap (λ (s : List ℕ). (n % 128 + 128) ∷ s) (enough j k (n / 128) (omega arith) (omega arith)))) (below_or n 128)

pub encode_one : (n : ℕ) → n < 128 → encode n ≡ n ∷ []
unfolding encode encode_in low_first
encode_one zero l = refl
encode_one (suc n) l = simp (lt-ltb (suc n) 128 l)

pub encode_more : (n : ℕ) → 128 ≤ n → encode n ≡ (n % 128 + 128) ∷ encode (n / 128)
unfolding encode encode_in low_first
encode_more zero l = absurd (omega arith)
encode_more (suc n) l = simp (le-ltb (suc n) 128 l) (ap (λ (s : List ℕ). (suc n % 128 + 128) ∷ s) (enough n (suc n / 128) (suc n / 128) (omega arith) (omega arith)))

-- how many bytes
pub length_one : (n : ℕ) → n < 128 → length (encode n) ≡ 1
length_one n l = ap length (encode_one n l)

pub length_more : (n : ℕ) → 128 ≤ n → length (encode n) ≡ suc (length (encode (n / 128)))
length_more n l = ap length (encode_more n l)

pub encode_some : (n : ℕ) → 1 ≤ length (encode n)
encode_some n = ⊎_elim (λ l. omega (arith, length_one n l)) (λ l. omega (arith, length_more n l)) (below_or n 128)

by_sevens : (k n : ℕ) → n < 2 ^ (7 * suc k) → length (encode n) ≤ suc k
by_sevens zero n h = omega (arith, length_one n h)
by_sevens (suc k) n h =
    ⊎_elim (λ l. omega (arith, length_one n l)) (λ l. omega (arith, length_more n l, by_sevens k (n / 128) (shr_lt (7 * suc k) 7 (subst (λ (m : ℕ). n < 2 ^ m) (omega arith) h)))) (below_or n 128)

-- 14, 16, 32 and 64 bits take at most 2, 3, 5 and 10 bytes
pub encode_width : (w k n : ℕ) → w ≤ 7 * suc k → n < 2 ^ w → length (encode n) ≤ suc k
encode_width w k n h l = by_sevens k n (omega (arith, pow_mono h))

-- they are bytes
encode_bytes : (n : ℕ) → all is_byte (encode n) ≡ true
unfolding all is_byte
encode_bytes = by_bytes (λ n. all is_byte (encode n) ≡ true) (λ n l. rw (encode_one n l) (and_i (lt-ltb n 256 (omega arith)) refl)) (λ n l ih. rw (encode_more n l) (and_i (lt-ltb (n % 128 + 128) 256 (omega arith)) ih))

pub all_bytes : (ns : List ℕ) → all is_byte (encode_all ns) ≡ true
unfolding all encode_all
all_bytes [] = refl
all_bytes (n ∷ ns) = all_append is_byte (encode n) (encode_all ns) (encode_bytes n) (all_bytes ns)

-- ---- read back

abbrev Back : ℕ → Type 0
Back n = (top : ℕ) (rest : List ℕ) → n ≤ top → read_number top (encode n ++ rest) ≡ got n rest

back_one : (n : ℕ) → n < 128 → Back n
unfolding read_number
back_one n l top rest h = rw (encode_one n l) (simp (lt-ltb n 128 l, le-leb n top h))

back_more : (n : ℕ) → 128 ≤ n → Back (n / 128) → Back n
unfolding read_number longer
back_more n l ih top rest h =
    rw (encode_more n l)
    (simp (le-ltb (n % 128 + 128) 128 (omega arith), ih (top / 128) rest (omega arith), ne_eqb (n / 128) 0 (omega arith), le-ltb top (n % 128 + 128 - 128 + 128 * (n / 128)) (omega arith))
    (ap (λ (x : ℕ). got x rest) (omega arith)))

pub read_encode : (n top : ℕ) (rest : List ℕ) → n ≤ top → read_number top (encode n ++ rest) ≡ got n rest
read_encode = by_bytes Back back_one back_more

-- ---- induction on the bytes that are read: nothing valid, one byte, or a byte with the top bit set before a rest that was read

module _ (P : ℕ → List ℕ → Read ℕ → Type 0)
    (none : (top : ℕ) (bytes : List ℕ) → P top bytes bad)
    (one : (top b : ℕ) (bytes : List ℕ) → b < 128 → b ≤ top → P top (b ∷ bytes) (got b bytes))
    (more : (top b n : ℕ) (bytes rest : List ℕ) → 128 ≤ b → 0 < n → b - 128 + 128 * n ≤ top → P (top / 128) bytes (got n rest) → P top (b ∷ bytes) (got (b - 128 + 128 * n) rest)) where
  by_longer : (top b : ℕ) (bytes : List ℕ) → 128 ≤ b → (r : Read ℕ) → P (top / 128) bytes r → P top (b ∷ bytes) (longer top b r)
  unfolding longer
  by_longer top b bytes l bad f = none top (b ∷ bytes)
  by_longer top b bytes l (got n rest) f = ⊎_elim
      (λ z. simp (eq-eqb n 0 (omega arith)) (none top (b ∷ bytes)))
      (λ z. simp (ne_eqb n 0 (omega arith)) (⊎_elim
      (λ k. simp (lt-ltb top (b - 128 + 128 * n) k) (none top (b ∷ bytes)))
      (λ k. simp (le-ltb top (b - 128 + 128 * n) k) (more top b n bytes rest l z k f))
      (below_or top (b - 128 + 128 * n))))
      (below_or n 1)

  pub by_reading : (top : ℕ) (bytes : List ℕ) → P top bytes (read_number top bytes)
  unfolding read_number
  by_reading top [] = none top []
  by_reading top (b ∷ bytes) = ⊎_elim
      (λ l. simp (lt-ltb b 128 l) (⊎_elim (λ k. simp (lt-leb b top k) (none top (b ∷ bytes))) (λ k. simp (le-leb b top k) (one top b bytes l k)) (below_or top b)))
      (λ l. simp (le-ltb b 128 l) (by_longer top b bytes l (read_number (top / 128) bytes) (by_reading (top / 128) bytes)))
      (below_or b 128)

-- one form: whatever is read is the encoding of its value, before the bytes after it
abbrev pub Form : List ℕ → Read ℕ → Type 0
Form bytes bad = Unit {0}
Form bytes (got v rest) = bytes ≡ encode v ++ rest

encode_grow : (b n : ℕ) → 128 ≤ b → b < 256 → 0 < n → encode (b - 128 + 128 * n) ≡ b ∷ encode n
encode_grow b n l h z =
    let low : (b - 128 + 128 * n) % 128 + 128 ≡ b = omega arith in
    let high : (b - 128 + 128 * n) / 128 ≡ n = omega arith in
    encode_more (b - 128 + 128 * n) (omega arith) ∙ rw (low, high)

pub read_form : (top : ℕ) (bytes : List ℕ) → all is_byte bytes ≡ true → Form bytes (read_number top bytes)
unfolding all is_byte
read_form = by_reading (λ top bytes r. all is_byte bytes ≡ true → Form bytes r)
    (λ top bytes h. tt)
    (λ top b bytes l k h. rw (encode_one b l))
    (λ top b n bytes rest l z k f h. rw (encode_grow b n l (ltb-true b 256 (and_l (ltb b 256) (all is_byte bytes) h)) z) (ap (λ (s : List ℕ). b ∷ s) (f (and_r (ltb b 256) (all is_byte bytes) h))))
