-- A set of indexes in words of 64 bits, as one number: index i is its bit i. Assumes nothing.
use Rattle.std.specs.Prelude.{ℕ, ◌+◌, ◌*◌, ◌%◌, ◌^◌, List, [], ◌∷◌}
use Rattle.marks.specs.declared.Marks.{Marks}

-- the lowest word first; of each, 64 bits count
unfoldable pub joined : List ℕ → ℕ
joined [] = 0
joined (w ∷ ws) = joined ws * 2 ^ 64 + w % 2 ^ 64

abbrev pub named : Marks → ℕ
named m = joined m.0
