-- Entries as they stand in a body, and a pass that judges and makes them one after the other. Assumes nothing.
use Rattle.std.specs.Prelude.{ℕ, ◌≤◌, ◌<◌, ◌^◌, ◌≡◌, Bool, false, not, ◌&&◌, Option, Some, None, List, [], ◌∷◌, length, drop, if◌then◌else◌}
use Rattle.std.specs.Int.Bits.{bit_or}
use Rattle.rules.specs.Bits.{has}
use Rattle.rules.specs.Number.{Read, got, bad, max32}
use Rattle.rules.specs.Entry.{Entry, is_only}
use Rattle.rules.specs.Request.{entry}
pub use Rattle.privilege.specs.Meaning.{entry_of}
use Rattle.body.specs.declared.entry.Entry as code

-- ---- one entry at a place

abbrev pub pair_of : List ℕ → Option code.Entry → Read Entry
pair_of s (Some e) = got (entry_of e.key e.value) (drop e.next s)
pair_of s None = bad

abbrev pub Bounds : ℕ → ℕ → Option code.Entry → Type 0
Bounds size at (Some e) = (at < e.next) × (e.next ≤ size) × (e.key ≤ max32) × (e.value ≤ max32)
Bounds size at None = Unit {0}

pub record PairAt (s : List ℕ) (at : ℕ) (r : Option code.Entry) : Type 0 where
  pub means : pair_of s r ≡ entry (drop at s)
  pub bounds : Bounds (length s) at r

-- ---- what was read

-- just this one entry
unfoldable pub is_just : ℕ → ℕ → Read (List Entry) → Bool
is_just k v (got es bytes) = is_only k v es
is_just k v bad = false

-- a step for each
unfoldable pub fold_all : {A X : Type 0} → (A → X → X) → List A → X → X
fold_all step [] x = x
fold_all step (a ∷ xs) x = fold_all step xs (step a x)

-- over what was read, and `stop` where something is missing
unfoldable pub folded : {A X : Type 0} → (A → X → X) → X → X → Read (List A) → X
folded step stop x (got xs later) = fold_all step xs x
folded step stop x bad = stop

-- what has become of x so far and the word of the keys named so far, until some entry is bad
pub data Progress (X : Type 0) : Type 0 where
  going : X → ℕ → Progress X
  stopped : Progress X

-- an entry is judged, and made
unfoldable pub turned : {X : Type 0} → (Entry → Bool) → (Entry → X → X) → Entry → Progress X → Progress X
turned good make e stopped = stopped
turned good make e (going x w) = if good e && not (has e.key w) then going (make e x) (bit_or w (2 ^ e.key)) else stopped

abbrev pub passed : {X : Type 0} → (Entry → Bool) → (Entry → X → X) → X → Read (List Entry) → Progress X
passed good make x = folded (turned good make) stopped (going x 0)
