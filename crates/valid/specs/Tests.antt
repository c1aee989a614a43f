-- Valid memory as the code tests it: row by row, and over the numbers of what is live.
-- proofs/Whole says that these tests come to `Memory.valid`. Assumes nothing.
use Rattle.std.specs.Prelude.{ℕ, Bool, not, ◌&&◌, ◌||◌, List, eqb, ltb, get_or}
use Rattle.table.specs.Rows.{test_rows}
use Rattle.rules.specs.Token.{max_dacl}
use Rattle.rules.specs.Station.{Station}
use Rattle.rules.specs.State.{token_slots, station_count}
use Rattle.rules.specs.Valid.{stream_valid, level_valid}
use Rattle.rules.specs.SidRows.{sids_at, sid_words_valid}
use Rattle.rules.specs.Basic.{same}
use Rattle.rules.specs.Memory.{Memory, station_row, pending_row, station_at, token_words, station_words, count_word, broken_word, client_word, level_word, stations_in, sids_in, pending_bytes}
use Rattle.token_rows.specs.Tests.{token_test}
use Rattle.references.specs.Tests.{links_test}
use Rattle.listed.specs.Tests.{listed_rows}

-- ---- a station's row

-- it is what the station in it is written as, which passes p
abbrev pub row_test : (Station → Bool) → List ℕ → List ℕ → Bool
row_test p ws bs = same (station_row (station_at ws bs)) ws && same (pending_row (station_at ws bs)) bs && p (station_at ws bs)

unfoldable pub stream_test : List ℕ → List ℕ → Bool
stream_test ws bs = row_test stream_valid ws bs

unfoldable pub station_test : List ℕ → List ℕ → Bool
station_test ws bs = row_test (λ x. stream_valid x && level_valid x) ws bs

-- the level is 0 where the station acts for none
abbrev pub level_test : List ℕ → Bool
level_test ws = not (eqb (get_or ws client_word 0) 0) || eqb (get_or ws level_word 0) 0

-- nothing pending, and no level without a client
abbrev pub idle_test : List ℕ → Bool
idle_test ws = eqb (get_or ws count_word 0) 0 && ltb (get_or ws broken_word 0) 2 && level_test ws

-- ---- all of it

unfoldable pub parts_test : Memory → Bool
parts_test m =
    test_rows token_test token_words max_dacl token_slots m.tokens m.dacls
    && test_rows station_test station_words pending_bytes station_count (stations_in m.control) m.pending
    && links_test m.tokens m.handles m.control
    && sid_words_valid (sids_in m.control)
    && listed_rows (sids_at (sids_in m.control)) m.tokens
