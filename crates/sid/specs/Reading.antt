-- What the reader and the writer of packed SIDs give. Assumes nothing.
use Rattle.std.specs.Prelude.{ℕ, ◌≡◌, Bool, ◌&&◌, List, ◌++◌, length, drop, eqb, leb, if◌then◌else◌, Option, Some, None}
use Rattle.rules.specs.Sid.{is_packed, sid_size, packed}
use Rattle.rules.specs.SidRows.{is_row, row_sid, row_words}

-- the size of the packed SID that the bytes begin with, where they do
unfoldable pub packed_size : List ℕ → Option ℕ
packed_size bytes = if is_packed bytes then Some (sid_size bytes) else None

-- a SID's row, and room for it in packed form
unfoldable pub can_write : List ℕ → List ℕ → Bool
can_write row out = eqb (length row) row_words && is_row row && leb (length (packed (row_sid row))) (length out)

pub record Wrote (row before after : List ℕ) (r : Option ℕ) : Type 0 where
  pub size : r ≡ (if can_write row before then Some (length (packed (row_sid row))) else None)
  pub bytes : after ≡ (if can_write row before then packed (row_sid row) ++ drop (length (packed (row_sid row))) before else before)
