-- What the tests of the whole lent memory say, where the handle list comes by value: `count` is its length, `items` are its first 32 handles. Assumes nothing.
use Rattle.std.specs.Prelude.{ℕ, ◌≡◌, Bool, true, List, length}
use Rattle.rules.specs.Memory.{sized, valid}
use Rattle.handle.specs.Loaded.{loaded}
use Rattle.handle.specs.declared.Handle.{Handle}
use Rattle.valid.specs.Meaning.{memory_of}

pub record SizesTested (tokens dacls count control pending : ℕ) (r : Bool) : Type 0 where
  pub sizes : (ts ds cs ps : List ℕ) (hs : List Handle) → length ts ≡ tokens → length ds ≡ dacls → length hs ≡ count → length cs ≡ control → length ps ≡ pending
      → r ≡ sized (memory_of ts ds hs cs ps)

-- of every lent list with those handles; a valid one is the 32 handles themselves
pub record ValidTested (count : ℕ) (items : List Handle) (ts ds cs ps : List ℕ) (r : Bool) : Type 0 where
  pub means : (hs : List Handle) → length hs ≡ count → loaded hs ≡ items → r ≡ valid (memory_of ts ds hs cs ps)
  pub holds : r ≡ true → valid (memory_of ts ds items cs ps) ≡ true
  pub all : r ≡ true → (hs : List Handle) → length hs ≡ count → loaded hs ≡ items → hs ≡ items
