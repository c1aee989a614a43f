-- What a chunk does on valid memory, step by step. Assumes nothing.
use Rattle.std.specs.Prelude.{ℕ, ◌-◌, ◌≡◌, true, false, None, Ok, List, ◌∷◌, ◌++◌, length, take, drop, replicate}
use Rattle.table.specs.Table.{flat, put_record}
use Rattle.rules.specs.Refusal.{stream_broken}
use Rattle.rules.specs.Station.{cleared}
use Rattle.rules.specs.State.{State, station_at, change_station}
use Rattle.rules.specs.Serve.{serve}
use Rattle.rules.specs.Valid.{valid}
use Rattle.rules.specs.Memory.{pending_bytes, pending_row, decode}
use Rattle.rules.specs.Model.{Result, fed_from}
use Rattle.rules.specs.Calls.{written, buffer}
use Rattle.handle.specs.declared.Handle.{Handle}
use Rattle.control.specs.Stations.{StreamSet}
use Rattle.state.specs.HandleFacts.{changed}
use Rattle.state.specs.ReleaseFacts.{PartsIn}
use Rattle.valid.specs.Meaning.{memory_of}
use Rattle.answer.specs.Answer.{WroteFrame}
use Rattle.calls.specs.Promise.{Feeds, fed_as}
use Rattle.calls.specs.declared.Turn.{Turn}

-- no answer, and no handle changes
abbrev pub quiet : ℕ → Turn
quiet used = record { used = used; answered = 0; change = None }

-- a part of a frame stays pending
pub record PartKept (station count used : ℕ) (cs cs' : List ℕ) (r : Turn) : Type 0 where
  pub turn : r ≡ quiet used
  pub control : StreamSet station count false cs cs'

-- the first count bytes of a row become zero
abbrev pub zeroed : ℕ → List ℕ → List ℕ
zeroed count row = replicate count 0 ++ drop count row

-- the stream breaks
pub record BrokenOff (station count used : ℕ) (cs row out cs' row' out' : List ℕ) (r : Turn) : Type 0 where
  pub turn : r ≡ record { used = used; answered = 2; change = None }
  pub control : StreamSet station 0 true cs cs'
  pub emptied : row' ≡ zeroed count row
  pub answer : out' ≡ 1 ∷ stream_broken ∷ drop 2 out

-- a frame is whole: its body is served on what is then kept
abbrev pub body : ℕ → ℕ → List ℕ → List ℕ
body start count row = take (count - start) (drop start row)

pub record FrameServed (station start count n : ℕ) (ts ds : List ℕ) (hs : List Handle) (cs row out ts' ds' cs' row' out' : List ℕ) (r : Turn) : Type 0 where
  pub used : r.used ≡ n
  pub emptied : row' ≡ zeroed count row
  pub parts : (σ : State) → valid σ ≡ true → PartsIn σ ts ds hs cs
      → PartsIn (serve (change_station station cleared σ) station (body start count row)).state ts' ds' (changed hs r.change) cs'
  pub answer : (σ : State) → valid σ ≡ true → PartsIn σ ts ds hs cs
      → WroteFrame (serve (change_station station cleared σ) station (body start count row)).answer out out' r.answered

-- ---- the station's row

-- the parts and the row hold a valid state
pub record RowHeld (station : ℕ) (ts ds : List ℕ) (hs : List Handle) (cs row : List ℕ) : Type 0 where
  pub state : State
  pub is_valid : valid state ≡ true
  pub parts : PartsIn state ts ds hs cs
  pub pending : row ≡ pending_row (station_at state station)

-- the parts and the row hold what the model says; `before` is the state before
pub record FedAs (w : Result) (before : State) (station : ℕ) (ts ds : List ℕ) (hs : List Handle) (cs row out out' : List ℕ) (r : Turn) : Type 0 where
  pub refusal : 0 ≡ w.refusal
  pub used : r.used ≡ w.used
  pub answered : r.answered ≡ length w.answer
  pub answer : out' ≡ buffer w.answer out
  pub parts : PartsIn w.after ts ds hs cs
  pub pending : put_record pending_bytes station row (flat pending_row before.stations) ≡ flat pending_row w.after.stations

pub record RowFed (station : ℕ) (chunk ts ds : List ℕ) (hs : List Handle) (cs row out ts' ds' cs' row' out' : List ℕ) (r : Turn) : Type 0 where
  pub fed : (σ : State) → valid σ ≡ true → PartsIn σ ts ds hs cs → row ≡ pending_row (station_at σ station)
      → FedAs (fed_from 0 station chunk σ) σ station ts' ds' (changed hs r.change) cs' row' out out' r

-- ---- valid memory

pub record Accepted (station : ℕ) (chunk ts ds : List ℕ) (hs : List Handle) (cs ps out ts' ds' cs' ps' out' : List ℕ) (r : Turn) : Type 0 where
  pub fed : Feeds (written (fed_from 0 station chunk (decode (memory_of ts ds hs cs ps)))) (memory_of ts' ds' (changed hs r.change) cs' ps') out out' (fed_as (Ok r))
