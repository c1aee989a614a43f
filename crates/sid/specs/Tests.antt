-- The test of the SID table's words, as the code runs it: one pass over the rows, one over their order. Assumes nothing.
use Rattle.std.specs.Prelude.{ℕ, zero, suc, ◌*◌, ◌/◌, ◌%◌, Bool, true, false, ◌&&◌, List, length, take, drop, get_or, eqb, ltb, if◌then◌else◌}
use Rattle.rules.specs.Basic.{all, is_zero, is_below, word32}
use Rattle.rules.specs.SidTable.{max_sids}
use Rattle.rules.specs.SidRows.{is_row, row_words, rising, row_at, rows_at, sid_words}

-- the part of a word of two sub-authorities that is past the last one, where there are n
unfoldable pub past_of : ℕ → ℕ → ℕ
past_of w n = if eqb (n % 2) 1 then w / word32 else w

-- each of the first n numbers passes
unfoldable pub all_below : (ℕ → Bool) → ℕ → Bool
all_below f zero = true
all_below f (suc n) = all_below f n && f n

unfoldable pub is_row_at : List ℕ → ℕ → Bool
is_row_at rows i = is_row (row_at rows i)

-- the first words of S-1-5-7 and S-1-5-18; behind the second ones is zero, since they are rows of one sub-authority
abbrev pub nt_header : ℕ
nt_header = 0x500000000000101

unfoldable pub starts_test : List ℕ → Bool
starts_test rows = eqb (get_or rows 0 0) nt_header && eqb (get_or rows 1 0) 7 && eqb (get_or rows 9 0) nt_header && eqb (get_or rows 10 0) 18

-- a table of n SIDs: places, then rows
unfoldable pub table_test : ℕ → List ℕ → List ℕ → Bool
table_test n places rows =
    all_below (is_row_at rows) n
    && rising (row_at rows) (take n places)
    && all is_zero (drop n places)
    && all is_zero (drop (n * row_words) rows)
    && starts_test rows

unfoldable pub count_test : ℕ → List ℕ → List ℕ → Bool
count_test n places rows =
    if ltb n 2 then false else if ltb max_sids n then false else if all (is_below n) (take n places) then table_test n places rows else false

unfoldable pub words_test : List ℕ → Bool
words_test ws = if eqb (length ws) sid_words then count_test (get_or ws 0 0) (take max_sids (drop 1 ws)) (drop rows_at ws) else false
