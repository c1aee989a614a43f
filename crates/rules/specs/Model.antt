-- The model of the broker (document 01: 'the plain desk'): what a byte, a feed and a reconnect do. Assumes nothing.
use Rattle.std.specs.Prelude.{ℕ, ◌+◌, List, [], ◌∷◌, ◌++◌, ltb, leb, if◌then◌else◌}
use Rattle.rules.specs.Refusal.{stream_broken, no_station, short_buffer}
use Rattle.rules.specs.Station.{Station, with_pending, cleared, broken_off}
use Rattle.rules.specs.State.{State, station_count, station_at, change_station}
use Rattle.rules.specs.Serve.{serve}
use Rattle.rules.specs.Frame.{Framed, part, broken, whole, framed, frame, max_answer}

-- ---- one byte

-- the state after it, and the answer that it brings, if any
pub data Step : Type 0 where
  silent : State → Step
  answers : List ℕ → State → Step

-- the byte joined the pending ones; a break or a frame's end empties them, and the body is served on what is then kept
unfoldable pub joined : State → ℕ → List ℕ → Framed → Step
joined σ s bytes part = silent (change_station s (with_pending bytes) σ)
joined σ s bytes broken = answers (frame (stream_broken ∷ [])) (change_station s broken_off σ)
joined σ s bytes (whole body) = let r = serve (change_station s cleared σ) s body in answers (frame r.answer) r.state

-- a byte at a station: eaten where the stream is broken
unfoldable pub byte_at : State → ℕ → Station → ℕ → Step
byte_at σ s x b = if x.is_broken then silent σ else (let bytes = x.pending ++ (b ∷ []) in joined σ s bytes (framed bytes))

unfoldable pub step : State → ℕ → ℕ → Step
step σ s b = byte_at σ s (station_at σ s) b

-- ---- calls

-- what a call returns (its refusal, the bytes used, the answer), and what is there after it: a state of the model, or lent memory
pub record Return (A : Type 0) : Type 0 where
  pub refusal : ℕ
  pub used : ℕ
  pub answer : List ℕ
  pub after : A

abbrev pub Result : Type 0
Result = Return State

unfoldable pub refused : ℕ → State → Result
refused n σ = record { refusal = n; used = 0; answer = []; after = σ }

-- after a step, n bytes are used: an answer ends the feed
unfoldable pub fed_on : ℕ → (State → Result) → Step → Result
fed_on n go (silent σ) = go σ
fed_on n go (answers a σ) = record { refusal = 0; used = n; answer = a; after = σ }

-- n bytes are used already: the others up to the first answer, or all
unfoldable pub fed_from : ℕ → ℕ → List ℕ → State → Result
fed_from n s [] σ = record { refusal = 0; used = n; answer = []; after = σ }
fed_from n s (b ∷ bytes) σ = fed_on (n + 1) (λ τ. fed_from (n + 1) s bytes τ) (step σ s b)

-- a chunk (document 01's 'piece') from a station, and the length of the answer buffer
unfoldable pub feed : State → ℕ → List ℕ → ℕ → Result
feed σ s chunk buffer_length =
    if leb station_count s then refused no_station σ else
    if ltb buffer_length max_answer then refused short_buffer σ else
    fed_from 0 s chunk σ

-- the part request and the break are dropped, nothing else
unfoldable pub reconnect : State → ℕ → Result
reconnect σ s =
    if leb station_count s then refused no_station σ else
    record { refusal = 0; used = 0; answer = []; after = change_station s cleared σ }
