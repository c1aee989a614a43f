-- The restricting SIDs of a copy: where they come from. Assumes nothing.
use Prim.Native.Nat.{ℕ, ◌≤◌}
use native.Mathlib.Omega.{arith}
use mathlib.Core.Path.{◌≡◌, refl}
use mathlib.Core.Bool.{Bool, true, false, not}
use mathlib.Core.Logic.{◌⊎◌, inl, inr}
use mathlib.Core.List.{List, [], ◌∷◌}
use lib.Dec.{leb}
use lib.ListN.{length}
use borrow.Author.Tests.{le-leb, leb-true}
use Rattle.std.specs.Prelude.{if◌then◌else◌}
use Rattle.rules.specs.Basic.{all, filter, is_empty}
use Rattle.rules.specs.Growth.{Mem}
use Rattle.rules.specs.Token.{Token, max_restricting, is_restricted}
use Rattle.rules.specs.Valid.{is32, limits_valid}
use Rattle.rules.specs.Restrict.{restricting_to}
use Rattle.rules.proofs.Logic.{not_both, and_l, mem_filter}

-- a restricted token's copy has nothing that the token lacked
pub narrower : (given own : List ℕ) → not (is_empty own) ≡ true → {n : ℕ} → Mem n (restricting_to given own) → Mem n own
unfolding restricting_to is_empty
narrower given [] r m = absurd (not_both r refl)
narrower [] (x ∷ xs) r m = m
narrower (y ∷ ys) (x ∷ xs) r m = (mem_filter _ (x ∷ xs) m).0

length_filter : (f : ℕ → Bool) (xs : List ℕ) → length (filter f xs) ≤ length xs
unfolding filter
length_filter f [] = omega arith
length_filter f (x ∷ xs) = go (f x) (length_filter f xs)
  where
    go : (b : Bool) → length (filter f xs) ≤ length xs → length (if b then x ∷ filter f xs else filter f xs) ≤ length (x ∷ xs)
    go true h = omega arith
    go false h = omega arith

shorter : (given own : List ℕ) → not (is_empty own) ≡ true → length (restricting_to given own) ≤ length own
unfolding restricting_to is_empty
shorter given [] r = absurd (not_both r refl)
shorter [] (x ∷ xs) r = omega arith
shorter (y ∷ ys) (x ∷ xs) r = length_filter _ (x ∷ xs)

-- for a restricted token the count given is no ground for refusal 8
pub restricted_fits : (t : Token) (given : List ℕ) → limits_valid t.limits ≡ true → is_restricted t ≡ true
    → leb (length (restricting_to given t.limits.restricting)) max_restricting ≡ true
unfolding limits_valid is_restricted
restricted_fits t given v r =
    let own = t.limits.restricting in
    let few = leb-true (length own) max_restricting (and_l _ (all is32 own) v) in
    le-leb (length (restricting_to given own)) max_restricting (omega (arith, shorter given own r, few))

pub from_either : (given own : List ℕ) {n : ℕ} → Mem n (restricting_to given own) → (Mem n given) ⊎ (Mem n own)
unfolding restricting_to is_empty
from_either given [] m = inl m
from_either given (x ∷ xs) m = inr (narrower given (x ∷ xs) refl m)
