-- The SID table in words: the number of its SIDs, the places of their rows by rising rows, the rows in the order of the numbers, zeros behind.
-- The order follows from the rows. Assumes nothing.
use Rattle.std.specs.Prelude.{ℕ, zero, suc, ◌+◌, ◌*◌, ◌/◌, ◌%◌, Bool, true, false, ◌&&◌, List, [], ◌∷◌, ◌++◌, length, take, drop, get_or, eqb, leb, ltb, if◌then◌else◌}
use Rattle.table.specs.Lists.{pad}
use Rattle.table.specs.Table.{flat}
use Rattle.rules.specs.Basic.{all, is_zero, same, word32}
use Rattle.rules.specs.Sid.{Sid, max_subs, to_bytes, from_bytes}
use Rattle.rules.specs.SidTable.{max_sids, sids_valid}

-- ---- a row: the packed SID, eight bytes a word, low byte first: the eight bytes before the sub-authorities, then two of these a word

abbrev pub row_words : ℕ
row_words = 9

-- k words of two numbers each
unfoldable pub pairs : ℕ → List ℕ → List ℕ
pairs zero ns = []
pairs (suc k) ns = (get_or ns 0 0 + get_or ns 1 0 * word32) ∷ pairs k (drop 2 ns)

unfoldable pub halves : List ℕ → List ℕ
halves [] = []
halves (w ∷ ws) = w % word32 ∷ w / word32 ∷ halves ws

unfoldable pub sid_row : Sid → List ℕ
sid_row s = from_bytes (1 ∷ length s.subs ∷ s.authority) ∷ pairs 8 s.subs

unfoldable pub count_in : List ℕ → ℕ
count_in row = get_or row 0 0 / 256 % 256

unfoldable pub row_sid : List ℕ → Sid
row_sid row = record { authority = to_bytes 6 (get_or row 0 0 / 65536); subs = take (count_in row) (halves (drop 1 row)) }

-- from sub-authority n on zero
unfoldable pub zero_from : ℕ → List ℕ → Bool
zero_from zero ws = all is_zero ws
zero_from (suc n) [] = true
zero_from (suc zero) (w ∷ ws) = is_zero (w / word32) && all is_zero ws
zero_from (suc (suc n)) (w ∷ ws) = zero_from n ws

-- nine words are a SID's row
unfoldable pub is_row : List ℕ → Bool
is_row row = eqb (get_or row 0 0 % 256) 1 && leb (count_in row) max_subs && zero_from (count_in row) (drop 1 row)

-- ---- the order of rows

-- the first word that differs is the smaller one; rows have one length
unfoldable pub less : List ℕ → List ℕ → Bool
less [] ys = false
less (x ∷ xs) [] = false
less (x ∷ xs) (y ∷ ys) = if eqb x y then less xs ys else ltb x y

module _ (row : ℕ → List ℕ) where
  -- each place's row is before the next one's
  unfoldable pub rising_from : ℕ → List ℕ → Bool
  rising_from i [] = true
  rising_from i (j ∷ js) = less (row i) (row j) && rising_from j js

  unfoldable pub rising : List ℕ → Bool
  rising [] = true
  rising (i ∷ is) = rising_from i is

  -- how many places, from the first on, have rows before x
  unfoldable pub rank : List ℕ → List ℕ → ℕ
  rank x [] = 0
  rank x (i ∷ is) = if less (row i) x then suc (rank x is) else 0

  -- place k, where its row belongs
  unfoldable pub insert : ℕ → List ℕ → List ℕ
  insert k [] = k ∷ []
  insert k (i ∷ is) = if less (row i) (row k) then i ∷ insert k is else k ∷ i ∷ is

  -- the places of the first n rows, by rising rows
  unfoldable pub order : ℕ → List ℕ
  order zero = []
  order (suc n) = insert n (order n)

-- ---- the table

-- row i of rows
unfoldable pub row_at : List ℕ → ℕ → List ℕ
row_at rows i = take row_words (drop (i * row_words) rows)

-- where the rows begin
abbrev pub rows_at : ℕ
rows_at = 257

abbrev pub sid_words : ℕ
sid_words = 2561

-- n rows with their order before them
unfoldable pub ordered : ℕ → List ℕ → List ℕ
ordered n rows = n ∷ (pad max_sids (order (row_at rows) n) ++ rows)

unfoldable pub write_sids : List Sid → List ℕ
write_sids sids = ordered (length sids) (pad (max_sids * row_words) (flat sid_row sids))

unfoldable pub read_sids : ℕ → List ℕ → List Sid
read_sids zero rows = []
read_sids (suc n) rows = row_sid (take row_words rows) ∷ read_sids n (drop row_words rows)

unfoldable pub sids_at : List ℕ → List Sid
sids_at ws = read_sids (get_or ws 0 0) (drop rows_at ws)

-- the words are what the table that they stand for is written as, and that table is valid
unfoldable pub sid_words_valid : List ℕ → Bool
sid_words_valid ws = eqb (length ws) sid_words && same (write_sids (sids_at ws)) ws && sids_valid (sids_at ws)
