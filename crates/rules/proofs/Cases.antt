-- Cases A to L hold: one computed test of the answers' table, and one equation of states. Assumes nothing.
use Prim.Native.Nat.{ℕ}
use mathlib.Core.Path.{◌≡◌, refl, ap₂}
use mathlib.Core.Bool.{Bool, true, false, ◌&&◌}
use mathlib.Core.List.{List, [], ◌∷◌}
use Rattle.rules.proofs.Computes.{computes}
use Rattle.rules.proofs.Logic.{and_l, and_r, not_both}
use Rattle.rules.proofs.Same.{same_eq}
use Rattle.rules.specs.Basic.{same}
use Rattle.rules.specs.Cases.{Row, ◌gives◌, ◌is◌, Holds, table, at, answers_from, answers, open_with, adjust, query_words, status, handle, handles, words}

sames : List (List ℕ) → List (List ℕ) → Bool
sames [] [] = true
sames [] (y ∷ ys) = false
sames (x ∷ xs) [] = false
sames (x ∷ xs) (y ∷ ys) = same x y && sames xs ys

sames_eq : (xs ys : List (List ℕ)) → sames xs ys ≡ true → xs ≡ ys
unfolding sames
sames_eq [] [] h = refl
sames_eq [] (y ∷ ys) h = absurd (not_both h refl)
sames_eq (x ∷ xs) [] h = absurd (not_both h refl)
sames_eq (x ∷ xs) (y ∷ ys) h = ap₂ ◌∷◌ (same_eq x y (and_l (same x y) _ h)) (sames_eq xs ys (and_r (same x y) _ h))

-- the test of all answers, and the equations of states
right : List Row → Bool
right [] = true
right (◌gives◌ a b ∷ rows) = sames a b && right rows
right (◌is◌ σ τ ∷ rows) = right rows

States : List Row → Type 0
States [] = Unit {0}
States (◌gives◌ a b ∷ rows) = States rows
States (◌is◌ σ τ ∷ rows) = (σ ≡ τ) × States rows

tested : (rows : List Row) → right rows ≡ true → States rows → Holds rows
unfolding Holds right States
tested [] h e = tt
tested (◌gives◌ a b ∷ rows) h e = (sames_eq a b (and_l (sames a b) _ h), tested rows (and_r (sames a b) _ h) e)
tested (◌is◌ σ τ ∷ rows) h e = (e.0, tested rows h e.1)

pub cases : Holds table
unfolding computes right sames States table at answers_from answers open_with adjust query_words status handle handles words
cases = tested table refl (refl, tt)
