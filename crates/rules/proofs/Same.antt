-- The tests of equal lists and of equal memories pass just where they are equal. Assumes nothing.
use Prim.Native.Nat.{ℕ}
use mathlib.Core.Path.{◌≡◌, refl, ap₂}
use mathlib.Core.Bool.{true}
use mathlib.Core.List.{List, [], ◌∷◌}
use lib.Dec.{eqb}
use borrow.Author.Tests.{eqb-true, eq-eqb}
use Rattle.rules.specs.Handle.{Handle}
use Rattle.rules.specs.Basic.{same}
use Rattle.rules.specs.Memory.{Memory, same_handle, same_handles, same_memory}
use Rattle.rules.proofs.Logic.{and_l, and_r, and_i, not_both}

-- ---- words and bytes

pub same_eq : (xs ys : List ℕ) → same xs ys ≡ true → xs ≡ ys
unfolding same
same_eq [] [] h = refl
same_eq [] (y ∷ ys) h = absurd (not_both h refl)
same_eq (x ∷ xs) [] h = absurd (not_both h refl)
same_eq (x ∷ xs) (y ∷ ys) h = ap₂ ◌∷◌ (eqb-true x y (and_l (eqb x y) _ h)) (same_eq xs ys (and_r (eqb x y) _ h))

pub same_refl : (xs : List ℕ) → same xs xs ≡ true
unfolding same
same_refl [] = refl
same_refl (x ∷ xs) = and_i (eq-eqb x x refl) (same_refl xs)

-- ---- handles

pub handle_eq : (a b : Handle) → same_handle a b ≡ true → a ≡ b
unfolding same_handle
handle_eq a b h = λ i.
    record {
      station = eqb-true a.station b.station (search (and_l, and_r)) i;
      number = eqb-true a.number b.number (search (and_l, and_r)) i;
      token = eqb-true a.token b.token (search (and_l, and_r)) i;
      mask = eqb-true a.mask b.mask (search (and_l, and_r)) i;
    }

pub handle_refl : (a : Handle) → same_handle a a ≡ true
unfolding same_handle
handle_refl a = simp (eq-eqb a.station _ refl, eq-eqb a.number _ refl, eq-eqb a.token _ refl, eq-eqb a.mask _ refl)

pub handles_eq : (xs ys : List Handle) → same_handles xs ys ≡ true → xs ≡ ys
unfolding same_handles
handles_eq [] [] h = refl
handles_eq [] (y ∷ ys) h = absurd (not_both h refl)
handles_eq (x ∷ xs) [] h = absurd (not_both h refl)
handles_eq (x ∷ xs) (y ∷ ys) h = ap₂ ◌∷◌ (handle_eq x y (and_l (same_handle x y) _ h)) (handles_eq xs ys (and_r (same_handle x y) _ h))

pub handles_refl : (xs : List Handle) → same_handles xs xs ≡ true
unfolding same_handles
handles_refl [] = refl
handles_refl (x ∷ xs) = and_i (handle_refl x) (handles_refl xs)

-- ---- memories

pub memory_eq : (a b : Memory) → same_memory a b ≡ true → a ≡ b
unfolding same_memory
memory_eq a b h = λ i.
    record {
      tokens = same_eq a.tokens b.tokens (search (and_l, and_r)) i;
      dacls = same_eq a.dacls b.dacls (search (and_l, and_r)) i;
      handles = handles_eq a.handles b.handles (search (and_l, and_r)) i;
      control = same_eq a.control b.control (search (and_l, and_r)) i;
      pending = same_eq a.pending b.pending (search (and_l, and_r)) i;
    }

pub memory_refl : (m : Memory) → same_memory m m ≡ true
unfolding same_memory
memory_refl m = simp (same_refl, handles_refl)
