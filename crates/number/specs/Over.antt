-- What a writer leaves in its buffer. Assumes nothing.
use Rattle.std.specs.Prelude.{ℕ, ◌≡◌, List, [], ◌∷◌, length}

-- the bytes xs written over the start of a list, as far as it reaches
unfoldable pub over : List ℕ → List ℕ → List ℕ
over [] ys = ys
over (x ∷ xs) [] = []
over (x ∷ xs) (y ∷ ys) = x ∷ over xs ys

-- a writer wrote all of xs at the start of its buffer, and says how many bytes that is
pub record Wrote (xs before afterwards : List ℕ) (r : ℕ) : Type 0 where
  pub count : r ≡ length xs
  pub bytes : afterwards ≡ over xs before
