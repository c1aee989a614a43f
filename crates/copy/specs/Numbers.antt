-- The numbers that stand in bytes, one after the other. Assumes nothing.
use Rattle.std.specs.Prelude.{ℕ, zero, suc, List, [], ◌∷◌, drop}
use Rattle.rules.specs.Number.{Read, got, bad}
use Rattle.rules.specs.Request.{u32}
use Rattle.copy.specs.declared.numbers.Numbers.{Numbers}

abbrev pub before : (List ℕ → List ℕ) → Read ℕ → List ℕ
before more (got n later) = n ∷ more later
before more bad = []

-- of n numbers, those that are there
unfoldable pub numbers_in : ℕ → List ℕ → List ℕ
numbers_in zero bytes = []
numbers_in (suc n) bytes = before (numbers_in n) (u32 bytes)

-- those still to come
unfoldable pub numbers_left : Numbers → List ℕ
numbers_left it = numbers_in it.left (drop it.at it.body.now)
