-- What the functions over numbers give, and what the words say of a number, valid or not. Assumes nothing.
use Rattle.std.specs.Prelude.{ℕ, ◌≡◌, Bool, ◌&&◌, ◌||◌, List, ◌++◌, length, drop, get_or, eqb, leb, ltb, if◌then◌else◌, Option, Some, None}
use Rattle.rules.specs.Sid.{Sid, packed}
use Rattle.rules.specs.Token.{anonymous, system}
use Rattle.rules.specs.SidTable.{max_sids, first_number, is_number, place_of_number}
use Rattle.rules.specs.SidRows.{row_sid, row_at, rows_at, sid_words, sids_at}
use Rattle.sid.specs.Reading.{can_write}

-- r says whether n is a number in a table of so many SIDs
pub record NumberIn (n count : ℕ) (r : Bool) : Type 0 where
  pub is : (sids : List Sid) → length sids ≡ count → r ≡ is_number sids n

-- where n stands in a table that has enough SIDs
unfoldable pub place_in : ℕ → Option ℕ
place_in n = if eqb n anonymous || eqb n system || leb first_number n then Some (place_of_number n) else None

-- n is one of those that the words count
unfoldable pub has_number : List ℕ → ℕ → Bool
has_number ws n =
    eqb (length ws) sid_words && leb (get_or ws 0 0) max_sids && is_number (sids_at ws) n && ltb (place_of_number n) (get_or ws 0 0)

unfoldable pub number_row : List ℕ → ℕ → List ℕ
number_row ws n = row_at (drop rows_at ws) (place_of_number n)

unfoldable pub can_write_number : List ℕ → ℕ → List ℕ → Bool
can_write_number ws n out = has_number ws n && can_write (number_row ws n) out

pub record WroteNumber (ws : List ℕ) (n : ℕ) (before after : List ℕ) (r : Option ℕ) : Type 0 where
  pub size : r ≡ (if can_write_number ws n before then Some (length (packed (row_sid (number_row ws n)))) else None)
  pub bytes : after ≡ (if can_write_number ws n before then packed (row_sid (number_row ws n)) ++ drop (length (packed (row_sid (number_row ws n)))) before else before)
