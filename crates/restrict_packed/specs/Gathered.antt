-- What the packed SIDs of request 15 come to: the table that they lead to, and their numbers in it. Assumes nothing.
use Rattle.std.specs.Prelude.{ℕ, ◌<◌, ◌≡◌, Bool, true, false, ◌&&◌, ◌||◌, List, map, eqb, ltb, length, drop, get_or, Option, None, Some, is_some, IfSome}
use Rattle.rules.specs.Basic.{all, member}
use Rattle.rules.specs.Number.{got}
use Rattle.rules.specs.Sid.{Sid, valid_sid, sid_in}
use Rattle.rules.specs.SidTable.{is_in, fits_table}
use Rattle.rules.specs.SidRows.{sid_row, sid_words}
use Rattle.rules.specs.Given.{Given, by_number, by_sid, entered_all, number_in}
use Rattle.rules.specs.Request.{times, packed_sid}
use Rattle.given.specs.Given.{Capped}
use Rattle.copy.specs.declared.restricting.Sids.{Sids}
use Rattle.copy.specs.Restricting.{Listed, SidAdded}

-- a full table's numbers are below it
abbrev pub numbers_end : ℕ
numbers_end = 286

pub record RowAt (s : List ℕ) (at : ℕ) (r : List ℕ) : Type 0 where
  pub is : r ≡ sid_row (sid_in (drop at s))
  pub sound : valid_sid (sid_in (drop at s)) ≡ true

-- ---- one more

-- no number of a table is past the marks
unfoldable pub is_marked : List Bool → ℕ → Bool
is_marked marks n = ltb n numbers_end && get_or marks n false

pub record Marked (n : ℕ) (marks marks' : List Bool) : Type 0 where
  pub long : length marks' ≡ numbers_end
  pub marked : (k : ℕ) → k < numbers_end → is_marked marks' k ≡ (is_marked marks k || eqb k n)

abbrev pub is_it : ℕ → Option ℕ → Bool
is_it k (Some n) = eqb k n
is_it k None = false

pub record Noted (list : Option Sids) (e : Option ℕ) (marks marks' : List Bool) (r : Option Sids) : Type 0 where
  pub long : length marks' ≡ numbers_end
  pub marked : (k : ℕ) → k < numbers_end → is_marked marks' k ≡ (is_marked marks k || is_it k e)
  pub room : is_some r ≡ (is_some list && is_some e)
  pub listed : IfSome r (λ l'. (l : Sids) × (n : ℕ) × (list ≡ Some l) × (e ≡ Some n) × SidAdded n l l')

-- ---- all

-- packed, and in the table
unfoldable pub is_known : List Sid → Given → Bool
is_known sids (by_number n) = false
is_known sids (by_sid s) = is_in s sids

abbrev pub numbers_in : List Given → List Sid → List ℕ
numbers_in given t = map (number_in (entered_all given t)) given

-- they have entered the table t, of which the words hold the first 256
pub record AllIn (given : List Given) (t : List Sid) (ws : List ℕ) (marks : List Bool) (list : Option Sids) : Type 0 where
  pub held : Capped (entered_all given t) ws
  pub room : is_some list ≡ fits_table (entered_all given t)
  pub known : all (is_known (entered_all given t)) given ≡ true
  pub marked : (k : ℕ) → k < numbers_end → is_marked marks k ≡ member k (numbers_in given t)
  pub listed : IfSome list (Listed (numbers_in given t))

pub record PackedGathered (s : List ℕ) (at count : ℕ) (ws ws' : List ℕ) (marks : List Bool) (r : Option Sids) : Type 0 where
  pub long : length ws' ≡ sid_words
  pub gathered : (given : List Given) (later : List ℕ) → times count packed_sid (drop at s) ≡ got given later
      → (t : List Sid) → Capped t ws → fits_table t ≡ true → AllIn given t ws' marks r
