-- The groups of a row, tested word by word. Assumes nothing.
use Rattle.std.proofs.Common.{◌≡◌, ℕ, zero, suc, ◌+◌, ◌-◌, ◌*◌, ◌/◌, ◌%◌, ◌^◌, ◌<◌, ◌≤◌, Bool, true, false, not, ◌&&◌, ◌||◌, eqb, List, map, length, get_or, sym, refl, ap, ◌∙◌, ap₂, mod-lt, div-add-mod', sub-one, arith, le-ltb, lt-ltb, Bor}
use native.Mathlib.Nat.{div-div-eq-div-mul}
use lib.Bits.{bit_and, bit_or, or_comm, or_shr, and_block, and_high, and_mask, and_zero_r}
use lib.ListN.{length-map, get_or-map}
use Rattle.std.specs.Prelude.{Option, Some, None, MatchOption}
use Rattle.std.specs.List.{HoldsAt}
use Rattle.rules.specs.Basic.{all, implies, both_or_neither, word32}
use Rattle.rules.specs.Bits.{has, within}
use Rattle.rules.specs.Group.{no_group, is_enabled, is_owner, is_deny_only}
use Rattle.rules.specs.AdjustDefaults.{valid_owner}
use Rattle.rules.specs.Valid.{group_valid, is32}
use Rattle.rules.specs.Memory.{unpack}
use Rattle.rules.proofs.Logic.{and_l, and_r}
use Rattle.rules.proofs.Bits.{digits, has_or, within_or, or_within, within_trans}
use Rattle.token_rows.specs.Tests.{group_test, carried_to}
use Rattle.lists.proofs.Truth.{same_truth, all_cong, all_and}

-- ---- tests of what was gathered by `|`

-- bit k is not set
abbrev pub lacks : ℕ → ℕ → Bool
lacks k w = eqb (w / 2 ^ k % 2) 0

not_has : (k w : ℕ) → lacks k w ≡ not (has k w)
unfolding has
not_has k w = digits (λ x y. eqb x 0 ≡ not (eqb x 1)) refl refl refl refl (w / 2 ^ k % 2) 0 (mod-lt (w / 2 ^ k) (omega arith)) (omega arith)

pub or_lacks : (k a b : ℕ) → lacks k (bit_or a b) ≡ (lacks k a && lacks k b)
or_lacks k a b = not_has k (bit_or a b) ∙ ap not (has_or k a b) ∙ neither (has k a) (has k b) ∙ sym (ap₂ (λ x y. x && y) (not_has k a) (not_has k b))
  where
    neither : (x y : Bool) → not (x || y) ≡ (not x && not y)
    neither true y = refl
    neither false y = refl

-- the attributes of a group's word are rule 3's and ENABLED
abbrev pub attributes_test : ℕ → Bool
attributes_test w = eqb (bit_and (w / word32) 0xC000001F) (w / word32)

within_both : (a b m : ℕ) → within (bit_or a b) m ≡ (within a m && within b m)
within_both a b m =
    same_truth _ _
    (λ h. ap₂ (λ x y. x && y) (within_trans a (bit_or a b) m (or_within a b) h) (within_trans b (bit_or a b) m (ap (within b) (or_comm a b) ∙ or_within b a) h))
    (λ h. within_or a b m (and_l (within a m) (within b m) h) (and_r (within a m) (within b m) h))

pub or_attributes : (a b : ℕ) → attributes_test (bit_or a b) ≡ (attributes_test a && attributes_test b)
unfolding within
or_attributes a b = ap (λ (x : ℕ). eqb (bit_and x 0xC000001F) x) (or_shr a b 32) ∙ within_both (a / word32) (b / word32) 0xC000001F

-- ---- the three tests of a group

-- LOGON_ID is whole or absent
abbrev pub half_test : ℕ → Bool
half_test w = lacks 63 (carried_to w)

-- DENY_ONLY and ENABLED are not both there
abbrev pub both_test : ℕ → Bool
both_test w = lacks 37 (carried_to w)

-- what is added to: LOGON_ID's two bits, and ENABLED and DENY_ONLY
masked : (w : ℕ) → bit_and w 0xC000001400000000 ≡ (w / 2 ^ 62 % 4) * 2 ^ 62 + (w / 2 ^ 34 % 2 + w / 2 ^ 36 % 2 * 4) * 2 ^ 34
masked w =
    let r : ℕ = w % 2 ^ 37 in
    let d : ℕ = r / 2 ^ 34 in
    sum (w / 2 ^ 62 % 4) (w / 2 ^ 34 % 2) (w / 2 ^ 36 % 2)
    (split 37 w 0x6000000 0x1400000000 (omega arith))
    (and_high (w / 2 ^ 37) 2 25 ∙ ap (λ (n : ℕ). n % 4 * 2 ^ 25) (div-div-eq-div-mul w (2 ^ 37) (2 ^ 25)))
    (split 34 r 5 0 (omega arith))
    (and_zero_r (r % 2 ^ 34))
    (split 2 d 1 1 (omega arith) ∙ ap₂ (λ (a b : ℕ). a * 4 + b) (and_mask (d / 4) 1 ∙ upper w) (and_mask (d % 4) 1 ∙ lower w))
  where
    split : (k n b s : ℕ) → s < 2 ^ k → bit_and n (b * 2 ^ k + s) ≡ bit_and (n / 2 ^ k) b * 2 ^ k + bit_and (n % 2 ^ k) s
    split k n b s h = ap (λ (m : ℕ). bit_and m (b * 2 ^ k + s)) (sym (div-add-mod' n (2 ^ k))) ∙ and_block k (n / 2 ^ k) b (n % 2 ^ k) s (mod-lt n (omega arith)) h

    upper : (w : ℕ) → w % 2 ^ 37 / 2 ^ 34 / 4 % 2 ≡ w / 2 ^ 36 % 2
    upper w = omega arith

    lower : (w : ℕ) → w % 2 ^ 37 / 2 ^ 34 % 4 % 2 ≡ w / 2 ^ 34 % 2
    lower w = omega arith

    sum : {a b c d z : ℕ} (e x y : ℕ) → a ≡ b * 2 ^ 37 + c → b ≡ e * 2 ^ 25 → c ≡ d * 2 ^ 34 + z → z ≡ 0 → d ≡ y * 4 + x → a ≡ e * 2 ^ 62 + (x + y * 4) * 2 ^ 34
    sum e x y p q r s t = omega arith

-- and what that carries to: a and b are LOGON_ID's bits, x and y ENABLED and DENY_ONLY
abbrev carry : ℕ → ℕ → ℕ → ℕ → ℕ
carry a b x y = ((a + b * 2) * 2 ^ 62 + (x + y * 4) * 2 ^ 34 + 0x4000000C00000000) % 2 ^ 64

abbrev bit : ℕ → ℕ → ℕ
bit k w = w / word32 / 2 ^ k % 2

carried_bits : (w : ℕ) → carried_to w ≡ carry (bit 30 w) (bit 31 w) (bit 2 w) (bit 4 w)
carried_bits w =
    ap (λ (n : ℕ). (n + 0x4000000C00000000) % 2 ^ 64)
    (masked w ∙ ap₂ (λ (e f : ℕ). e * 2 ^ 62 + f * 2 ^ 34) (pair (w / 2 ^ 62) ∙ ap₂ (λ (a b : ℕ). a + b * 2) (at 30) (ap (λ (n : ℕ). n % 2) (div-div-eq-div-mul w (2 ^ 62) 2) ∙ at 31)) (ap₂ (λ (x y : ℕ). x + y * 4) (at 2) (at 4)))
  where
    pair : (n : ℕ) → n % 4 ≡ n % 2 + n / 2 % 2 * 2
    pair n = omega arith

    at : (k : ℕ) → w / (word32 * 2 ^ k) % 2 ≡ bit k w
    at k = ap (λ (n : ℕ). n % 2) (sym (div-div-eq-div-mul w word32 (2 ^ k)))

-- it is so of each of the four bits' sixteen values
module _ (P : ℕ → ℕ → ℕ → ℕ → Type 0) where
  abbrev Four : ℕ → ℕ → Type 0
  Four a b = P a b 0 0 × P a b 0 1 × P a b 1 0 × P a b 1 1

  of_bits : Four 0 0 → Four 0 1 → Four 1 0 → Four 1 1 → (w : ℕ) → P (bit 30 w) (bit 31 w) (bit 2 w) (bit 4 w)
  of_bits p q r s w = digits (λ a b. P a b (bit 2 w) (bit 4 w)) (of p) (of q) (of r) (of s) (bit 30 w) (bit 31 w) (mod-lt _ (omega arith)) (mod-lt _ (omega arith))
    where
      of : {a b : ℕ} → Four a b → P a b (bit 2 w) (bit 4 w)
      of {a} {b} f = digits (P a b) f.0 f.1 f.2 f.3 (bit 2 w) (bit 4 w) (mod-lt _ (omega arith)) (mod-lt _ (omega arith))

half_test_lem : (w : ℕ) → half_test w ≡ both_or_neither (has 30 (w / word32)) (has 31 (w / word32))
unfolding has both_or_neither
half_test_lem w =
    ap (λ (n : ℕ). eqb (n / 2 ^ 63 % 2) 0) (carried_bits w)
    ∙ of_bits (λ a b x y. eqb (carry a b x y / 2 ^ 63 % 2) 0 ≡ both_or_neither (eqb a 1) (eqb b 1))
    (refl, refl, refl, refl) (refl, refl, refl, refl) (refl, refl, refl, refl) (refl, refl, refl, refl) w

both_test_lem : (w : ℕ) → both_test w ≡ implies (has 4 (w / word32)) (not (has 2 (w / word32)))
unfolding has implies
both_test_lem w =
    ap (λ (n : ℕ). eqb (n / 2 ^ 37 % 2) 0) (carried_bits w)
    ∙ of_bits (λ a b x y. eqb (carry a b x y / 2 ^ 37 % 2) 0 ≡ implies (eqb y 1) (not (eqb x 1)))
    (refl, refl, refl, refl) (refl, refl, refl, refl) (refl, refl, refl, refl) (refl, refl, refl, refl) w

pub is32_low : (w : ℕ) → is32 (w % word32) ≡ true
unfolding is32
is32_low w = lt-ltb (w % word32) word32 (mod-lt w (omega arith))

group_tests : (w : ℕ) → (attributes_test w && half_test w && both_test w) ≡ group_test w
unfolding group_test group_valid unpack within is_deny_only is_enabled
group_tests w = rw (half_test_lem w, both_test_lem w, is32_low w)

-- with what the code has at its end
pub groups_tested : (s : List ℕ) {a b c : Bool} → a ≡ all attributes_test s → b ≡ all half_test s → c ≡ all both_test s
    → (a && b && c) ≡ all group_test s
groups_tested s ea eb ec =
    ap₂ (λ x y. x && y)
    (ap₂ (λ x y. x && y) ea eb ∙ all_and attributes_test half_test s) ec
    ∙ all_and (λ w. attributes_test w && half_test w) both_test s
    ∙ all_cong (λ w. attributes_test w && half_test w && both_test w) group_test group_tests s

-- ---- an owner index

pub owner_user : (xs : List ℕ) (o : ℕ) → o ≡ 0 → eqb o 0 ≡ valid_owner (map unpack xs) o
unfolding valid_owner
owner_user xs zero e = refl
owner_user xs (suc k) e = absurd (omega arith)

-- what stands at the index before it, if anything
pub owner_group : (xs : List ℕ) (o : ℕ) (found : Option (Bor ℕ)) {b : Bool} → (o ≡ 0 → ⊥)
    → MatchOption found (length xs ≤ o - 1) (λ x. (o - 1 < length xs) × HoldsAt (λ y. x.now ≡ y) xs (o - 1))
    → MatchOption found (b ≡ false) (λ x. b ≡ is_owner (unpack x.now)) → b ≡ valid_owner (map unpack xs) o
unfolding valid_owner unpack no_group
owner_group xs zero found e h eb = absurd (e refl)
owner_group xs (suc k) None e h eb = eb ∙ sym (rw (le-ltb k (length (map unpack xs)) (omega (arith, length-map xs unpack))))
owner_group xs (suc k) (Some x) e h eb =
    eb
    ∙ ap (λ (n : ℕ). is_owner (unpack n)) (h.1 0 ∙ ap (λ (j : ℕ). get_or xs j 0) (sub-one (suc k)))
    ∙ sym (ap₂ (λ a b. a && b) (lt-ltb k (length (map unpack xs)) (omega (arith, length-map xs unpack, h.0))) (ap is_owner (get_or-map unpack xs k 0)))
