-- A list cut at both ends, in either order. Assumes nothing.
use mathlib.Core.Path.{◌≡◌, sym, ap, ◌∙◌}
use mathlib.Core.List.{List, [], ◌∷◌}
use Prim.Native.Nat.{ℕ, zero, suc, ◌-◌}
use native.Mathlib.Omega.{arith}
use lib.ListN.{take, drop}
use lib.Seq.{take-nil}

pub drop_take : {A : Type 0} (n k : ℕ) (xs : List A) → drop n (take k xs) ≡ take (k - n) (drop n xs)
drop_take zero k xs = ap (λ (j : ℕ). take j xs) {x = k} {y = k - 0} (omega arith)
drop_take (suc n) zero xs = ap (λ (j : ℕ). take j (drop (suc n) xs)) {x = 0} {y = 0 - suc n} (omega arith)
drop_take (suc n) (suc k) [] = sym (take-nil (suc k - suc n))
drop_take (suc n) (suc k) (x ∷ xs) = drop_take n k xs ∙ ap (λ (j : ℕ). take j (drop n xs)) {x = k - n} {y = suc k - suc n} (omega arith)
