-- What the three calls do to lent memory: the promises of `start`, `feed` and `reconnect` are equations with these. Assumes nothing.
use Rattle.std.specs.Prelude.{ℕ, List, [], ◌++◌, length, drop, leb, ltb, if◌then◌else◌}
use Rattle.rules.specs.Refusal.{no_station, short_buffer, invalid_memory}
use Rattle.rules.specs.State.{start, station_count}
use Rattle.rules.specs.Frame.{max_answer}
use Rattle.rules.specs.Model.{Return, Result, fed_from, reconnect}
use Rattle.rules.specs.Memory.{Memory, sized, encode, decode, valid}

abbrev pub Done : Type 0
Done = Return Memory

-- nothing is used, answered or written
unfoldable pub refused_on : ℕ → Memory → Done
refused_on n m = record { refusal = n; used = 0; answer = []; after = m }

unfoldable pub written : Result → Done
written r = record { refusal = r.refusal; used = r.used; answer = r.answer; after = encode r.after }

-- any memory of the right size is overwritten
unfoldable pub start_on : Memory → Done
start_on m = if sized m then record { refusal = 0; used = 0; answer = []; after = encode start } else refused_on invalid_memory m

-- a station's chunk, and the length of the answer buffer: 11, 12, 13 in that order, then the model
unfoldable pub feed_on : Memory → ℕ → List ℕ → ℕ → Done
feed_on m s chunk buffer_length =
    if leb station_count s then refused_on no_station m else
    if ltb buffer_length max_answer then refused_on short_buffer m else
    if valid m then written (fed_from 0 s chunk (decode m)) else
    refused_on invalid_memory m

-- it refuses only by 11 and 13
unfoldable pub reconnect_on : Memory → ℕ → Done
reconnect_on m s =
    if leb station_count s then refused_on no_station m else
    if valid m then written (reconnect (decode m) s) else
    refused_on invalid_memory m

-- the answer buffer after a call: bytes after the answer stay
unfoldable pub buffer : List ℕ → List ℕ → List ℕ
buffer answer before = answer ++ drop (length answer) before
