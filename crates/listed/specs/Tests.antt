-- The SIDs that tokens keep are in the table: as the rules say it of a row, and as the code tests it by the table's count. Assumes nothing.
use Rattle.std.specs.Prelude.{ℕ, ◌+◌, ◌-◌, ◌≡◌, Bool, true, ◌&&◌, ◌||◌, List, [], eqb, leb, length, get_or, if◌then◌else◌}
use Rattle.std.specs.Int.Bits.{bit_or}
use Rattle.table.specs.Rows.{test_rows}
use Rattle.rules.specs.Basic.{all, word32}
use Rattle.rules.specs.Token.{anonymous, system}
use Rattle.rules.specs.State.{token_slots}
use Rattle.rules.specs.Sid.{Sid}
use Rattle.rules.specs.SidTable.{first_number}
use Rattle.rules.specs.Valid.{sid_numbers, is_listed}
use Rattle.rules.specs.Head as Head
use Rattle.rules.specs.Memory.{low32, token_at, token_words}

-- ---- as the rules say it

-- of a row; the DACL beside it is not looked at
unfoldable pub listed_test : List Sid → List ℕ → List ℕ → Bool
listed_test sids ws none = if eqb (get_or ws Head.number 0) 0 then true else is_listed sids (token_at ws none)

abbrev pub listed_rows : List Sid → List ℕ → Bool
listed_rows sids ts = test_rows (listed_test sids) token_words 0 token_slots ts []

-- of every table of so many SIDs
pub record TokensListed (ts : List ℕ) (count : ℕ) (r : Bool) : Type 0 where
  pub means : (sids : List Sid) → length sids ≡ count → r ≡ listed_rows sids ts

-- ---- as the code tests it

unfoldable pub at_most : ℕ → ℕ → ℕ
at_most most n = if leb n most then n else most

-- a number of 32 bits is at most this just where it is below 30 + count
unfoldable pub last_of : ℕ → ℕ
last_of count = if leb count word32 then 29 + count else 29 + word32

-- from the lowest that is given
abbrev pub is_given : ℕ → ℕ → Bool
is_given last n = leb first_number n && leb n last

-- a number of the table
abbrev pub number_to : ℕ → ℕ → Bool
number_to last n = eqb n anonymous || eqb n system || is_given last n

abbrev pub given_test : ℕ → ℕ → Bool
given_test last w = is_given last (low32 w)

abbrev pub word_test : ℕ → ℕ → Bool
word_test last w = number_to last (low32 w)

-- bit 63 says that the word's lower half is not given
abbrev pub stray_of : ℕ → ℕ → ℕ
stray_of last w = bit_or (low32 w + (0x7FFFFFFFFFFFFFFF - last)) (0x800000000000001F - low32 w)

unfoldable pub row_test : ℕ → List ℕ → List ℕ → Bool
row_test last ws none = if eqb (get_or ws Head.number 0) 0 then true else all (number_to last) (sid_numbers (token_at ws none))
