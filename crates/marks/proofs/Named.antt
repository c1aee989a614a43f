-- The words of a set of indexes, bit by bit. Assumes nothing.
use Prim.Native.Nat.{ℕ, suc, ◌+◌, ◌*◌, ◌-◌, ◌/◌, ◌%◌, ◌^◌, ◌≤◌, ◌<◌}
use native.Mathlib.Nat.{mod-lt}
use native.Mathlib.Omega.{arith}
use mathlib.Core.Path.{◌≡◌, sym, ap, ap₂, ◌∙◌}
use mathlib.Core.Bool.{Bool, false, ◌||◌, or-false}
use mathlib.Core.Logic.{⊎_elim}
use mathlib.Core.List.{List, [], ◌∷◌}
use lib.Arith.{digits_div, digits_mod}
use lib.Bits.{bit_or}
use lib.Dec.{eqb, ltb}
use lib.ListN.{length, get_or, set, get_or-eq_default}
use lib.Seq.{get_or-set_same, get_or-set_other}
use borrow.Author.Tests.{eqb-true, eqb-false, eq-eqb, ne_eqb, ltb-true, ltb-false}
use Rattle.rules.specs.Bits.{has}
use Rattle.rules.proofs.Bits.{has_or, has_power, has_none, has_low, has_high, same_bits, power_inside}
use Rattle.rules.proofs.Logic.{either}
use Rattle.marks.specs.Named.{joined}

-- ---- one bit

module _ (high w n : ℕ) where
  abbrev both : ℕ
  both = high * 2 ^ 64 + w % 2 ^ 64

  low : w % 2 ^ 64 < 2 ^ 64
  low = mod-lt w (omega arith)

  in_first : n < 64 → has n both ≡ has n w
  in_first l = sym (has_low 64 n both l) ∙ ap (has n) (digits_mod high low) ∙ has_low 64 n w l

  in_others : has (64 + n) both ≡ has n high
  in_others = has_high 64 n both ∙ ap (has n) (digits_div high low)

at_place : (ws : List ℕ) {i j p q : ℕ} → i ≡ j → p ≡ q → has i (get_or ws p 0) ≡ has j (get_or ws q 0)
at_place ws = ap₂ (λ (i p : ℕ). has i (get_or ws p 0))

pub has_joined : (ws : List ℕ) (n : ℕ) → has n (joined ws) ≡ has (n % 64) (get_or ws (n / 64) 0)
unfolding joined
has_joined [] n = has_none n ∙ sym (has_none (n % 64))
has_joined (w ∷ ws) n =
    ⊎_elim (λ t.
    let l = ltb-true n 64 t in
    in_first (joined ws) w n l ∙ at_place (w ∷ ws) {i = n} {j = n % 64} {p = 0} {q = n / 64} (omega arith) (omega arith))
    (λ t.
    let l = ltb-false n 64 t in
    let m = n - 64 in
    ap (λ (k : ℕ). has k (joined ws * 2 ^ 64 + w % 2 ^ 64)) {x = n} {y = 64 + m} (omega arith) ∙ in_others (joined ws) w m ∙ has_joined ws m
    ∙ at_place (w ∷ ws) {i = m % 64} {j = n % 64} {p = suc (m / 64)} {q = n / 64} (omega arith) (omega arith))
    (either (ltb n 64))

-- ---- one index more

same_place : (n k : ℕ) → n / 64 ≡ k / 64 → eqb (n % 64) (k % 64) ≡ eqb n k
same_place n k e =
    ⊎_elim (λ t. t ∙ sym (eq-eqb n k (let h = eqb-true (n % 64) (k % 64) t in omega arith)))
    (λ t. t ∙ sym (ne_eqb n k (λ h. eqb-false (n % 64) (k % 64) t (ap (λ (x : ℕ). x % 64) h)))) (either (eqb (n % 64) (k % 64)))

module _ (ws : List ℕ) (k : ℕ) (inside : k / 64 < length ws) where
  abbrev more : List ℕ
  more = set ws (k / 64) (bit_or (get_or ws (k / 64) 0) (2 ^ (k % 64)))

  in_place : (n : ℕ) → n / 64 ≡ k / 64 → has (n % 64) (get_or more (n / 64) 0) ≡ (has (n % 64) (get_or ws (n / 64) 0) || eqb n k)
  in_place n e =
      ap (λ (i : ℕ). has (n % 64) (get_or more i 0)) e
      ∙ ap (has (n % 64)) (get_or-set_same ws (k / 64) _ 0 inside)
      ∙ has_or (n % 64) (get_or ws (k / 64) 0) (2 ^ (k % 64))
      ∙ ap₂ (λ (x y : Bool). x || y) (ap (λ (i : ℕ). has (n % 64) (get_or ws i 0)) (sym e)) (has_power (n % 64) (k % 64) ∙ same_place n k e)

  elsewhere : (n : ℕ) → (n / 64 ≡ k / 64 → ⊥) → has (n % 64) (get_or more (n / 64) 0) ≡ (has (n % 64) (get_or ws (n / 64) 0) || eqb n k)
  elsewhere n d =
      ap (has (n % 64)) (get_or-set_other ws (k / 64) (n / 64) _ 0 d)
      ∙ sym (ap (λ (y : Bool). has (n % 64) (get_or ws (n / 64) 0) || y) (ne_eqb n k (λ h. d (ap (λ (x : ℕ). x / 64) h))) ∙ or-false _)

  has_more : (n : ℕ) → has (n % 64) (get_or more (n / 64) 0) ≡ (has (n % 64) (get_or ws (n / 64) 0) || eqb n k)
  has_more n = ⊎_elim (λ t. in_place n (eqb-true _ _ t)) (λ t. elsewhere n (eqb-false _ _ t)) (either (eqb (n / 64) (k / 64)))

  joined_more : joined more ≡ bit_or (joined ws) (2 ^ k)
  joined_more = same_bits (joined more) (bit_or (joined ws) (2 ^ k)) (λ n.
      has_joined more n ∙ has_more n
      ∙ sym (has_or n (joined ws) (2 ^ k) ∙ ap₂ (λ (x y : Bool). x || y) (has_joined ws n) (has_power n k)))

-- ---- what the code does to the words

pub not_past : (ws : List ℕ) (k : ℕ) → length ws ≤ k / 64 → has (k % 64) (get_or ws (k / 64) 0) ≡ false
not_past ws k h = ap (has (k % 64)) (get_or-eq_default ws 0 h) ∙ has_none (k % 64)

pub with_index : (ws : List ℕ) (k : ℕ) {b o : ℕ} → k / 64 < length ws → b ≡ 2 ^ (k % 64) % 2 ^ 64 → o ≡ bit_or (get_or ws (k / 64) 0) b
    → joined (set ws (k / 64) o) ≡ bit_or (joined ws) (2 ^ k)
with_index ws k h e f = rw (f, e, power_inside 64 (k % 64) (mod-lt k (omega arith))) (joined_more ws k h)

pub ruleset indexes = (has_joined, not_past, with_index)
