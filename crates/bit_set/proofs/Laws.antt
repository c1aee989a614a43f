-- Laws of sets of numbers as bits of words. Assumes nothing.
use Prim.Native.Nat.{ℕ, zero, suc, ◌/◌, ◌%◌, ◌^◌, ◌≤◌, ◌<◌}
use native.Mathlib.Nat.{mod-lt}
use native.Mathlib.Omega.{arith}
use mathlib.Core.Path.{◌≡◌, refl, sym, ap, ap₂, ◌∙◌}
use mathlib.Core.Bool.{Bool, false, ◌||◌, or_comm}
use mathlib.Core.Logic.{⊎_elim}
use mathlib.Core.List.{List}
use lib.Bits.{bit_or}
use lib.Dec.{eqb}
use lib.ListN.{length, get_or, set, take, replicate, get_or-eq_default}
use lib.Seq.{get_or-set_same, get_or-set_other, get_or-take, set_out}
use borrow.Author.Tests.{lt-ltb, le-ltb, eqb-true, eqb-false, eq-eqb, ne_eqb}
use Rattle.rules.specs.Bits.{has}
use Rattle.rules.proofs.Bits.{has_or, has_none, has_power, power_inside}
use Rattle.rules.proofs.Logic.{either}
use Rattle.bit_set.specs.Set.{word_bits, contains, entered}

-- ---- what the code does to the words

module _ (i : ℕ) (ws : List ℕ) where
  pub enters : (b o : ℕ) → b ≡ 2 ^ (i % word_bits) % 2 ^ 64 → o ≡ bit_or (get_or ws (i / word_bits) 0) b → set ws (i / word_bits) o ≡ entered i ws
  unfolding entered
  enters b o e f = ap (set ws (i / word_bits)) (f ∙ ap (bit_or (get_or ws (i / word_bits) 0)) (e ∙ power_inside 64 (i % word_bits) (mod-lt i (omega arith))))

  pub enters_none : length ws ≤ i / word_bits → ws ≡ entered i ws
  unfolding entered
  enters_none h = sym (set_out ws (i / word_bits) _ h)

  -- ---- which numbers are in a set

  pub none_past : length ws ≤ i / word_bits → false ≡ contains i ws
  unfolding contains
  none_past h = sym (ap (has (i % word_bits)) (get_or-eq_default ws 0 h) ∙ has_none (i % word_bits))

  -- the first words tell of their own numbers
  pub contains_first : (n : ℕ) → i / word_bits < n → contains i (take n ws) ≡ contains i ws
  unfolding contains
  contains_first n h = ap (has (i % word_bits)) (get_or-take n ws (i / word_bits) 0 h)

zeros : (n k : ℕ) → ◌≡◌ {A = ℕ} (get_or (replicate n 0) k 0) 0
zeros zero zero = refl
zeros zero (suc k) = refl
zeros (suc n) zero = refl
zeros (suc n) (suc k) = zeros n k

pub contains_none : (n i : ℕ) → contains i (replicate n 0) ≡ false
unfolding contains
contains_none n i = ap (has (i % word_bits)) (zeros n (i / word_bits)) ∙ has_none (i % word_bits)

-- ---- a number that is entered is in the set, and no other comes or goes

module _ (i j : ℕ) where
  same_bit : j / word_bits ≡ i / word_bits → eqb (j % word_bits) (i % word_bits) ≡ eqb i j
  same_bit e = ⊎_elim
      (λ t. eq-eqb (j % word_bits) (i % word_bits) (ap (λ (x : ℕ). x % word_bits) (sym (eqb-true i j t))) ∙ sym t)
      (λ t. ne_eqb (j % word_bits) (i % word_bits) (λ q. eqb-false i j t (omega arith)) ∙ sym t)
      (either (eqb i j))

  module _ (ws : List ℕ) where
    in_its_word : i / word_bits < length ws → j / word_bits ≡ i / word_bits → contains j (entered i ws) ≡ (eqb i j || contains j ws)
    unfolding contains entered
    in_its_word h e =
        ap (λ (k : ℕ). has (j % word_bits) (get_or (entered i ws) k 0)) e
        ∙ ap (has (j % word_bits)) (get_or-set_same ws (i / word_bits) _ 0 h)
        ∙ has_or (j % word_bits) (get_or ws (i / word_bits) 0) (2 ^ (i % word_bits))
        ∙ ap₂ ◌||◌ (ap (λ (k : ℕ). has (j % word_bits) (get_or ws k 0)) (sym e)) (has_power (j % word_bits) (i % word_bits) ∙ same_bit e)
        ∙ or_comm (contains j ws) (eqb i j)

    in_another : (j / word_bits ≡ i / word_bits → ⊥) → contains j (entered i ws) ≡ (eqb i j || contains j ws)
    unfolding contains entered
    in_another f =
        ap (has (j % word_bits)) (get_or-set_other ws (i / word_bits) (j / word_bits) _ 0 f)
        ∙ ap (λ (b : Bool). b || contains j ws) (sym (ne_eqb i j (λ e. f (ap (λ (x : ℕ). x / word_bits) (sym e)))))

    pub contains_entered : i / word_bits < length ws → contains j (entered i ws) ≡ (eqb i j || contains j ws)
    contains_entered h = ⊎_elim
        (λ t. in_its_word h (eqb-true (j / word_bits) (i / word_bits) t))
        (λ t. in_another (eqb-false (j / word_bits) (i / word_bits) t))
        (either (eqb (j / word_bits) (i / word_bits)))

pub ruleset words = (enters, enters_none, none_past, le-ltb, lt-ltb)
