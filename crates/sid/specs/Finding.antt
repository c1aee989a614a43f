-- What a lookup gives, what a new place does to the order, and what entering a SID gives. Assumes nothing.
use Rattle.std.specs.Prelude.{ℕ, ◌+◌, ◌*◌, ◌≤◌, ◌≡◌, true, Option, Some, None, IfSome, List, ◌∷◌, ◌++◌, length, take, drop, if◌then◌else◌}
use Rattle.table.specs.Table.{put_record}
use Rattle.rules.specs.Basic.{all, is_below}
use Rattle.rules.specs.Growth.{Mem}
use Rattle.rules.specs.Sid.{valid_sid}
use Rattle.rules.specs.SidTable.{max_sids, place_of, entered, fits_table}
use Rattle.rules.specs.SidRows.{row_words, row_sid, sid_row, rising, row_at, rows_at, sids_at, write_sids}

-- x may be looked for: places rise
pub record Sought (places rows x : List ℕ) : Type 0 where
  pub long : length rows ≡ max_sids * row_words
  pub wide : length x ≡ row_words
  pub few : length places ≤ max_sids
  pub below : all (is_below max_sids) places ≡ true
  pub rises : rising (row_at rows) places ≡ true

-- the one of the places whose row is x, if there is one
pub record FoundAt (places rows x : List ℕ) (r : Option ℕ) : Type 0 where
  pub there : IfSome r (λ i. Mem i places × (row_at rows i ≡ x))
  pub only : (i : ℕ) → Mem i places → row_at rows i ≡ x → r ≡ Some i

-- n places with one more at k
unfoldable pub shifted : ℕ → ℕ → ℕ → List ℕ → List ℕ
shifted n k new places = take k places ++ (new ∷ (drop k (take n places) ++ drop (n + 1) places))

-- the words of n SIDs with x behind the last, where k rows are before it
unfoldable pub added : ℕ → ℕ → List ℕ → List ℕ → List ℕ
added n k x ws = (n + 1) ∷ (shifted n k n (take max_sids (drop 1 ws)) ++ put_record row_words n x (drop rows_at ws))

-- x is the row of a valid SID
pub record Rowed (x : List ℕ) : Type 0 where
  pub same : sid_row (row_sid x) ≡ x
  pub sound : valid_sid (row_sid x) ≡ true

-- the SID of x is looked up, and entered if it is new and fits
pub record EnteredAs (x before after : List ℕ) (r : Option ℕ) : Type 0 where
  pub place : r ≡ (if fits_table (entered (row_sid x) (sids_at before)) then Some (place_of (row_sid x) (sids_at before)) else None)
  pub written : after ≡ (if fits_table (entered (row_sid x) (sids_at before)) then write_sids (entered (row_sid x) (sids_at before)) else before)
