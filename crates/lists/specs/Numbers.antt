-- A type's values as the numbers that they stand for, one by one and in lists. Assumes nothing.
use Rattle.std.specs.Prelude.{ℕ, ◌≡◌, List, [], ◌∷◌, refl}

pub record InTurn {X : Type 0} (number : X → ℕ) (numbers : List X → List ℕ) : Type 0 where
  pub none : numbers [] ≡ []
  pub more : (x : X) (xs : List X) → numbers (x ∷ xs) ≡ number x ∷ numbers xs

-- a number stands for itself
pub itself : InTurn (λ x. x) (λ s. s)
itself = record { none = refl; more = λ x xs. refl }
