-- Laws of words as sets of bits. Each operation acts on each bit apart (has-and, has-or, has-without, has-power), and words with the same bits
-- are equal (same_bits). Assumes nothing.
use Prim.Native.Nat.{ℕ, zero, suc, ◌+◌, ◌-◌, ◌*◌, ◌/◌, ◌%◌, ◌^◌, ◌≤◌, ◌<◌, min, max}
use native.Mathlib.Nat.{pow-suc, pow-succ', div-div-eq-div-mul, div-one, zero-div, mod-lt, div-add-mod', min-le_left, mul-mod_left, mul-div_cancel, div-eq_of_lt, mod-eq_of_lt, lt_of_lt_of_le}
use native.Mathlib.Omega.{arith}
use mathlib.Core.Path.{◌≡◌, refl, sym, ap, ap₂, ◌∙◌}
use mathlib.Core.Bool.{Bool, true, false, not, ◌&&◌, ◌||◌, and-true, and-false, or-false}
use mathlib.Core.Logic.{⊎_elim}
use lib.Dec.{eqb, eqb-zero-suc, eqb-suc-zero, eqb-suc-suc}
use lib.Arith.{digits_div, digits_mod, lt-one, bin_ind}
use lib.Pow.{pow-add, pow-lt, pow_mono, mod-pow-add, shr-shr}
use lib.Bits.{bit_and, bit_or, and_step, or_step, and_le_l, and_le_r}
use borrow.Author.Tests.{eqb-true, eq-eqb}
use Rattle.std.specs.Prelude.{if◌then◌else◌}
use Rattle.rules.specs.Bits.{has, without, within}
use Rattle.rules.proofs.Logic.{and_l, and_r, and_i, or_e, or_l, not_both, either}

-- ---- a bit further up is a bit of the half

pub has_zero : (w : ℕ) → has 0 w ≡ eqb (w % 2) 1
unfolding has
has_zero w = ap (λ (x : ℕ). eqb (x % 2) 1) (div-one w)

pub has_suc : (n w : ℕ) → has (suc n) w ≡ has n (w / 2)
unfolding has
has_suc n w = ap (λ (x : ℕ). eqb (x % 2) 1) (ap (λ (x : ℕ). w / x) (pow-succ' 2 n) ∙ sym (div-div-eq-div-mul w 2 (2 ^ n)))

-- ---- an operation on two words that acts on each pair of digits by f acts on each pair of bits by g
module _ (op : ℕ → ℕ → ℕ) (f : ℕ → ℕ → ℕ) (g : Bool → Bool → Bool)
    (step : (a b : ℕ) → op a b ≡ op (a / 2) (b / 2) * 2 + f (a % 2) (b % 2))
    (f_lt : (x y : ℕ) → x < 2 → y < 2 → f x y < 2)
    (f_g : (x y : ℕ) → x < 2 → y < 2 → eqb (f x y) 1 ≡ g (eqb x 1) (eqb y 1)) where
  op_half : (a b : ℕ) → op a b / 2 ≡ op (a / 2) (b / 2)
  op_half a b = ap (λ (x : ℕ). x / 2) (step a b) ∙ digits_div (op (a / 2) (b / 2)) (f_lt (a % 2) (b % 2) (mod-lt a (omega arith)) (mod-lt b (omega arith)))

  op_odd : (a b : ℕ) → op a b % 2 ≡ f (a % 2) (b % 2)
  op_odd a b = ap (λ (x : ℕ). x % 2) (step a b) ∙ digits_mod (op (a / 2) (b / 2)) (f_lt (a % 2) (b % 2) (mod-lt a (omega arith)) (mod-lt b (omega arith)))

  op_has : (n a b : ℕ) → has n (op a b) ≡ g (has n a) (has n b)
  op_has zero a b =
      has_zero (op a b) ∙ ap (λ (x : ℕ). eqb x 1) (op_odd a b)
      ∙ f_g (a % 2) (b % 2) (mod-lt a (omega arith)) (mod-lt b (omega arith))
      ∙ sym (ap₂ g (has_zero a) (has_zero b))
  op_has (suc n) a b =
      has_suc n (op a b) ∙ ap (has n) (op_half a b) ∙ op_has n (a / 2) (b / 2) ∙ sym (ap₂ g (has_suc n a) (has_suc n b))

-- a table over two digits is a law for all of them
pub digits : (P : ℕ → ℕ → Type 0) → P 0 0 → P 0 1 → P 1 0 → P 1 1 → (x y : ℕ) → x < 2 → y < 2 → P x y
digits P a b c d zero zero hx hy = a
digits P a b c d zero (suc zero) hx hy = b
digits P a b c d (suc zero) zero hx hy = c
digits P a b c d (suc zero) (suc zero) hx hy = d
digits P a b c d zero (suc (suc y)) hx hy = absurd (omega arith)
digits P a b c d (suc zero) (suc (suc y)) hx hy = absurd (omega arith)
digits P a b c d (suc (suc x)) y hx hy = absurd (omega arith)

-- ---- the bits of a & b, of a | b, and of a without b

pub has_and : (n a b : ℕ) → has n (bit_and a b) ≡ (has n a && has n b)
has_and =
    op_has bit_and min (λ x y. x && y) and_step
    (digits (λ x y. min x y < 2) (omega arith) (omega arith) (omega arith) (omega arith))
    (digits (λ x y. eqb (min x y) 1 ≡ (eqb x 1 && eqb y 1)) refl refl refl refl)

pub has_or : (n a b : ℕ) → has n (bit_or a b) ≡ (has n a || has n b)
has_or =
    op_has bit_or max (λ x y. x || y) or_step
    (digits (λ x y. max x y < 2) (omega arith) (omega arith) (omega arith) (omega arith))
    (digits (λ x y. eqb (max x y) 1 ≡ (eqb x 1 || eqb y 1)) refl refl refl refl)

without_step : (a b : ℕ) → without a b ≡ without (a / 2) (b / 2) * 2 + (a % 2 - min (a % 2) (b % 2))
unfolding without
without_step a b = omega (arith, and_step a b, and_le_l (a / 2) (b / 2), div-add-mod' a 2, min-le_left (a % 2) (b % 2))

pub has_without : (n a b : ℕ) → has n (without a b) ≡ (has n a && not (has n b))
has_without =
    op_has without (λ x y. x - min x y) (λ x y. x && not y) without_step
    (digits (λ x y. x - min x y < 2) (omega arith) (omega arith) (omega arith) (omega arith))
    (digits (λ x y. eqb (x - min x y) 1 ≡ (eqb x 1 && not (eqb y 1))) refl refl refl refl)

pub has_none : (n : ℕ) → has n 0 ≡ false
unfolding has
has_none n = ap (λ (x : ℕ). eqb (x % 2) 1) (zero-div (2 ^ n))

power_half : (k : ℕ) → 2 ^ suc k / 2 ≡ 2 ^ k
power_half k = ap (λ (x : ℕ). x / 2) (pow-suc 2 k) ∙ mul-div_cancel (2 ^ k) (omega arith)

-- the word 2 ^ k has bit k alone
pub has_power : (n k : ℕ) → has n (2 ^ k) ≡ eqb n k
has_power zero zero = has_zero 1
has_power zero (suc k) =
    has_zero (2 ^ suc k) ∙ ap (λ (x : ℕ). eqb (x % 2) 1) (pow-suc 2 k) ∙ ap (λ (x : ℕ). eqb x 1) (mul-mod_left (2 ^ k) 2) ∙ sym (eqb-zero-suc k)
has_power (suc n) zero = has_suc n 1 ∙ has_none n ∙ sym (eqb-suc-zero n)
has_power (suc n) (suc k) = has_suc n (2 ^ suc k) ∙ ap (has n) (power_half k) ∙ has_power n k ∙ sym (eqb-suc-suc n k)

-- a word has no bit past its width
pub has_past : (k w n : ℕ) → w < 2 ^ k → k ≤ n → has n w ≡ false
unfolding has
has_past k w n h l = ap (λ (x : ℕ). eqb (x % 2) 1) (div-eq_of_lt (lt_of_lt_of_le h (pow_mono l)))

-- bit n alone, of a word of k bits
pub power_inside : (k n : ℕ) → n < k → 2 ^ n % 2 ^ k ≡ 2 ^ n
power_inside k n h = mod-eq_of_lt (pow-lt h)

pub power_past : (k n : ℕ) → k ≤ n → 2 ^ n % 2 ^ k ≡ 0
power_past k n l =
    let e : n ≡ n - k + k = omega arith in
    ap (λ (x : ℕ). 2 ^ x % 2 ^ k) e ∙ ap (λ (x : ℕ). x % 2 ^ k) (pow-add 2 (n - k) k) ∙ mul-mod_left (2 ^ (n - k)) (2 ^ k)

-- the bits of a word's low k bits, and of those above them
low_step : (k w : ℕ) → w % 2 ^ suc k ≡ (w / 2 % 2 ^ k) * 2 + w % 2
low_step k w = ap (λ (x : ℕ). w % 2 ^ x) {x = suc k} {y = k + 1} (omega arith) ∙ mod-pow-add w k 1

pub has_low : (k n w : ℕ) → n < k → has n (w % 2 ^ k) ≡ has n w
has_low zero n w h = absurd (omega arith)
has_low (suc k) zero w h =
    has_zero (w % 2 ^ suc k) ∙ ap (λ (x : ℕ). eqb x 1) (ap (λ (x : ℕ). x % 2) (low_step k w) ∙ digits_mod (w / 2 % 2 ^ k) (mod-lt w (omega arith)))
    ∙ sym (has_zero w)
has_low (suc k) (suc n) w h =
    has_suc n (w % 2 ^ suc k) ∙ ap (has n) (ap (λ (x : ℕ). x / 2) (low_step k w) ∙ digits_div (w / 2 % 2 ^ k) (mod-lt w (omega arith)))
    ∙ has_low k n (w / 2) (omega arith) ∙ sym (has_suc n w)

pub has_high : (k n w : ℕ) → has (k + n) w ≡ has n (w / 2 ^ k)
unfolding has
has_high k n w = ap (λ (x : ℕ). eqb (x % 2) 1) (sym (shr-shr w k n))

-- ---- bits that w does not name, and bits that it takes away

pub or_same : (n a w : ℕ) → has n w ≡ false → has n (bit_or a w) ≡ has n a
or_same n a w h = has_or n a w ∙ ap (λ (x : Bool). has n a || x) h ∙ or-false (has n a)

pub without_same : (n a w : ℕ) → has n w ≡ false → has n (without a w) ≡ has n a
without_same n a w h = has_without n a w ∙ ap (λ (x : Bool). has n a && not x) h ∙ and-true (has n a)

pub without_none : (n a w : ℕ) → has n w ≡ true → has n (without a w) ≡ false
without_none n a w h = has_without n a w ∙ ap (λ (x : Bool). has n a && not x) h ∙ and-false (has n a)

-- ---- words with the same bits are equal

low_bit : (a b : ℕ) → eqb (a % 2) 1 ≡ eqb (b % 2) 1 → a % 2 ≡ b % 2
low_bit a b = digits (λ x y. eqb x 1 ≡ eqb y 1 → x ≡ y) (λ e. refl) (λ e. cc) (λ e. cc) (λ e. refl) (a % 2) (b % 2) (mod-lt a (omega arith)) (mod-lt b (omega arith))

no_bits : (b : ℕ) → ((n : ℕ) → has n b ≡ false) → b ≡ 0
no_bits = bin_ind (λ (b : ℕ). ((n : ℕ) → has n b ≡ false) → b ≡ 0) (λ h. refl)
    (λ b ih h.
    let up : b / 2 ≡ 0 = ih (λ n. sym (has_suc n b) ∙ h (suc n)) in
    let low : b % 2 ≡ 0 % 2 = low_bit b 0 (sym (has_zero b) ∙ h 0) in
    omega arith)

pub same_bits : (a b : ℕ) → ((n : ℕ) → has n a ≡ has n b) → a ≡ b
same_bits = bin_ind (λ (a : ℕ). (b : ℕ) → ((n : ℕ) → has n a ≡ has n b) → a ≡ b)
    (λ b h. sym (no_bits b (λ n. sym (h n) ∙ has_none n)))
    (λ a ih b h.
    let up : a / 2 ≡ b / 2 = ih (b / 2) (λ n. sym (has_suc n a) ∙ h (suc n) ∙ has_suc n b) in
    let low : a % 2 ≡ b % 2 = low_bit a b (sym (has_zero a) ∙ h 0 ∙ has_zero b) in
    omega arith)

-- ---- within, bit by bit

and_left : (x y : Bool) → (x ≡ true → y ≡ true) → (x && y) ≡ x
and_left true y h = h refl
and_left false y h = refl

pub within_has : (a b : ℕ) → within a b ≡ true → (k : ℕ) → has k a ≡ true → has k b ≡ true
unfolding within
within_has a b h k i = and_r (has k a) (has k b) (sym (has_and k a b) ∙ ap (has k) (eqb-true (bit_and a b) a h) ∙ i)

pub has_within : (a b : ℕ) → ((k : ℕ) → has k a ≡ true → has k b ≡ true) → within a b ≡ true
unfolding within
has_within a b h = eq-eqb (bit_and a b) a (same_bits (bit_and a b) a (λ k. has_and k a b ∙ and_left (has k a) (has k b) (h k)))

pub within_refl : (a : ℕ) → within a a ≡ true
within_refl a = has_within a a (λ k h. h)

pub within_trans : (a b c : ℕ) → within a b ≡ true → within b c ≡ true → within a c ≡ true
within_trans a b c h g = has_within a c (λ k i. within_has b c g k (within_has a b h k i))

pub within_le : (a b : ℕ) → within a b ≡ true → a ≤ b
unfolding within
within_le a b h = omega (arith, eqb-true (bit_and a b) a h, and_le_r a b)

pub without_within : (a b : ℕ) → within (without a b) a ≡ true
without_within a b = has_within (without a b) a (λ k h. and_l (has k a) (not (has k b)) (sym (has_without k a b) ∙ h))

pub both_without : (a b w : ℕ) → within a b ≡ true → within (without a w) (without b w) ≡ true
both_without a b w h = has_within (without a w) (without b w) (λ k g.
    let i : (has k a && not (has k w)) ≡ true = sym (has_without k a w) ∙ g in
    has_without k b w ∙ and_i (within_has a b h k (and_l (has k a) (not (has k w)) i)) (and_r (has k a) (not (has k w)) i))

pub within_or : (a b c : ℕ) → within a c ≡ true → within b c ≡ true → within (bit_or a b) c ≡ true
within_or a b c h g = has_within (bit_or a b) c (λ k i. ⊎_elim (within_has a c h k) (within_has b c g k) (or_e (has k a) (has k b) (sym (has_or k a b) ∙ i)))

pub or_within : (a b : ℕ) → within a (bit_or a b) ≡ true
or_within a b = has_within a (bit_or a b) (λ k h. has_or k a b ∙ or_l (has k a) (has k b) h)

pub power_within : (n c : ℕ) → has n c ≡ true → within (2 ^ n) c ≡ true
power_within n c h = has_within (2 ^ n) c (λ k g. ap (λ (x : ℕ). has x c) (eqb-true k n (sym (has_power k n) ∙ g)) ∙ h)

pub none_within : (c : ℕ) → within 0 c ≡ true
none_within c = has_within 0 c (λ k g. absurd (not_both g (has_none k)))

-- ---- what the code's shifts, complements and masks are

min_not : (x y : ℕ) → x < 2 → y < 2 → min x (1 - y) ≡ x - min x y
min_not = digits (λ x y. min x (1 - y) ≡ x - min x y) refl refl refl refl

-- a & !b
pub and_not : (w a b : ℕ) → a < 2 ^ w → b < 2 ^ w → bit_and a (2 ^ w - 1 - b) ≡ without a b
unfolding without
and_not zero a b ha hb = rw (lt-one ha)
and_not (suc w) a b ha hb =
    let up : (2 ^ suc w - 1 - b) / 2 ≡ 2 ^ w - 1 - b / 2 = omega (arith, pow-suc 2 w) in
    let low : (2 ^ suc w - 1 - b) % 2 ≡ 1 - b % 2 = omega (arith, pow-suc 2 w) in
    and_step a (2 ^ suc w - 1 - b)
    ∙ ap₂ (λ (x y : ℕ). bit_and (a / 2) x * 2 + min (a % 2) y) up low
    ∙ ap₂ (λ (x y : ℕ). x * 2 + y)
    (and_not w (a / 2) (b / 2) (omega (arith, pow-suc 2 w)) (omega (arith, pow-suc 2 w)))
    (min_not (a % 2) (b % 2) (mod-lt a (omega arith)) (mod-lt b (omega arith)))
    ∙ sym (without_step a b)

at_bit : (x t : Bool) (n k : ℕ) → (n ≡ k → x ≡ t) → (x && eqb n k) ≡ (t && eqb n k)
at_bit x t n k h =
    ⊎_elim (λ e. ap (λ (y : Bool). y && eqb n k) (h (eqb-true n k e)))
    (λ e. ap (λ (y : Bool). x && y) e ∙ and-false x ∙ sym (ap (λ (y : Bool). t && y) e ∙ and-false t)) (either (eqb n k))

has_if : (k n : ℕ) (t : Bool) → has k (if t then 2 ^ n else 0) ≡ (t && eqb k n)
has_if k n true = has_power k n
has_if k n false = has_none k

-- w & (1 << n) is 1 << n where bit n is set, and else 0
pub and_power : (w n : ℕ) (t : Bool) → has n w ≡ t → bit_and w (2 ^ n) ≡ (if t then 2 ^ n else 0)
and_power w n t h = same_bits (bit_and w (2 ^ n)) (if t then 2 ^ n else 0) (λ k.
    has_and k w (2 ^ n) ∙ ap (λ (x : Bool). has k w && x) (has_power k n)
    ∙ at_bit (has k w) t k n (λ e. ap (λ (x : ℕ). has x w) e ∙ h) ∙ sym (has_if k n t))
