-- Lists of calls, and what counts of them: the used bytes and the reconnects, with their stations. Assumes nothing.
use Rattle.std.specs.Prelude.{ℕ, zero, suc, ◌+◌, ◌≡◌, Bool, true, List, [], ◌∷◌, ◌++◌, map, length, take, drop, leb, if◌then◌else◌}
use Rattle.rules.specs.Basic.{all}
use Rattle.rules.specs.Frame.{Framed, part, broken, whole, framed, frame}
use Rattle.rules.specs.Station.{cleared}
use Rattle.rules.specs.State.{State, station_count, station_at, change_station, station_token, station_client}
use Rattle.rules.specs.Decision.{Served}
use Rattle.rules.specs.Serve.{serve}
use Rattle.rules.specs.Model.{Result, Step, silent, answers, step, feed, reconnect}
use Rattle.rules.specs.Valid.{is_byte}

-- a call: a feed of a station's chunk, with the length of the answer buffer, or a reconnect of a station
pub data Call : Type 0 where
  feeds : ℕ → List ℕ → ℕ → Call
  reconnects : ℕ → Call

unfoldable pub returned : State → Call → Result
returned σ (feeds s chunk buffer_length) = feed σ s chunk buffer_length
returned σ (reconnects s) = reconnect σ s

-- the state after a list of calls
unfoldable pub after : List Call → State → State
after [] σ = σ
after (c ∷ cs) σ = after cs (returned σ c).after

-- the answers of a list of calls, in order; a call without one adds none
unfoldable pub noted : List ℕ → List (List ℕ) → List (List ℕ)
noted [] rest = rest
noted (b ∷ bytes) rest = (b ∷ bytes) ∷ rest

unfoldable pub answered : List Call → State → List (List ℕ)
answered [] σ = []
answered (c ∷ cs) σ = noted (returned σ c).answer (answered cs (returned σ c).after)

-- a chunk is of bytes
unfoldable pub of_bytes : Call → Bool
of_bytes (feeds s chunk buffer_length) = all is_byte chunk
of_bytes (reconnects s) = true

-- ---- events: used bytes, and reconnects that are not refused

pub data Event : Type 0 where
  byte : ℕ → ℕ → Event
  reconnected : ℕ → Event

unfoldable pub events_of : State → Call → List Event
events_of σ (feeds s chunk buffer_length) = map (byte s) (take (feed σ s chunk buffer_length).used chunk)
events_of σ (reconnects s) = if leb station_count s then [] else reconnected s ∷ []

unfoldable pub events : List Call → State → List Event
events [] σ = []
events (c ∷ cs) σ = events_of σ c ++ events cs (returned σ c).after

unfoldable pub happens : State → Event → Step
happens σ (byte s b) = step σ s b
happens σ (reconnected s) = silent (change_station s cleared σ)

unfoldable pub state_of : Step → State
state_of (silent σ) = σ
state_of (answers a σ) = σ

unfoldable pub told : Step → List (List ℕ) → List (List ℕ)
told (silent σ) rest = rest
told (answers a σ) rest = a ∷ rest

-- the state after events, and the answers that they bring
unfoldable pub after_events : List Event → State → State
after_events [] σ = σ
after_events (e ∷ es) σ = after_events es (state_of (happens σ e))

unfoldable pub answers_to : List Event → State → List (List ℕ)
answers_to [] σ = []
answers_to (e ∷ es) σ = told (happens σ e) (answers_to es (state_of (happens σ e)))

-- ---- when and where an answer comes: with which event, counted from 1, and at which station

pub record Timed : Type 0 where
  pub event : ℕ
  pub station : ℕ
  pub answer : List ℕ

unfoldable pub station_of : Call → ℕ
station_of (feeds s chunk buffer_length) = s
station_of (reconnects s) = s

unfoldable pub noted_at : ℕ → ℕ → List ℕ → List Timed → List Timed
noted_at n s [] rest = rest
noted_at n s (b ∷ bytes) rest = record { event = n; station = s; answer = b ∷ bytes } ∷ rest

-- of calls, after n events: a call's answer comes with its last event
unfoldable pub timed : ℕ → List Call → State → List Timed
timed n [] σ = []
timed n (c ∷ cs) σ =
    let k = n + length (events_of σ c) in noted_at k (station_of c) (returned σ c).answer (timed k cs (returned σ c).after)

unfoldable pub place_of : Event → ℕ
place_of (byte s b) = s
place_of (reconnected s) = s

unfoldable pub told_at : ℕ → ℕ → Step → List Timed → List Timed
told_at n s (silent σ) rest = rest
told_at n s (answers a σ) rest = record { event = n; station = s; answer = a } ∷ rest

-- of events, one by one: an answer comes with the event that brings it
unfoldable pub timed_to : ℕ → List Event → State → List Timed
timed_to n [] σ = []
timed_to n (e ∷ es) σ = told_at (n + 1) (place_of e) (happens σ e) (timed_to (n + 1) es (state_of (happens σ e)))

-- ---- a chunk fed until it is used up, in at most k feeds

unfoldable pub until_used : ℕ → State → ℕ → List ℕ → ℕ → List Call
until_used zero σ s chunk buffer_length = []
until_used (suc k) σ s [] buffer_length = []
until_used (suc k) σ s (b ∷ chunk) buffer_length =
    let r = feed σ s (b ∷ chunk) buffer_length in feeds s (b ∷ chunk) buffer_length ∷ until_used k r.after s (drop r.used (b ∷ chunk)) buffer_length

-- ---- what the streams' bytes come to, in the order of the last byte of each: a whole body, with the state that it is served on, or a break

pub record Serving : Type 0 where
  pub before : State
  pub station : ℕ
  pub body : List ℕ

pub data Outcome : Type 0 where
  serves : Serving → Outcome
  breaks : ℕ → Outcome

unfoldable pub outcome_of : State → ℕ → Framed → List Outcome
outcome_of σ s part = []
outcome_of σ s broken = breaks s ∷ []
outcome_of σ s (whole body) = serves (record { before = change_station s cleared σ; station = s; body = body }) ∷ []

unfoldable pub outcome_at : State → Event → List Outcome
outcome_at σ (byte s b) = let x = station_at σ s in if x.is_broken then [] else outcome_of σ s (framed (x.pending ++ (b ∷ [])))
outcome_at σ (reconnected s) = []

unfoldable pub outcomes : List Event → State → List Outcome
outcomes [] σ = []
outcomes (e ∷ es) σ = outcome_at σ e ++ outcomes es (state_of (happens σ e))

unfoldable pub served_by : Serving → Served
served_by x = serve x.before x.station x.body

-- a body is answered as it is served, a break by 10
unfoldable pub answer_to : Outcome → List ℕ
answer_to (serves x) = frame (served_by x).answer
answer_to (breaks s) = 0x01 ∷ 0x0A ∷ []

unfoldable pub answered_at : ℕ → Outcome → Timed
answered_at n (serves x) = record { event = n; station = x.station; answer = answer_to (serves x) }
answered_at n (breaks s) = record { event = n; station = s; answer = answer_to (breaks s) }

-- each answered at its last byte, after n events
unfoldable pub answered_from : ℕ → List Event → State → List Timed
answered_from n [] σ = []
answered_from n (e ∷ es) σ = map (answered_at (n + 1)) (outcome_at σ e) ++ answered_from (n + 1) es (state_of (happens σ e))

-- the same tokens, handles, pairs and SIDs, and primary tokens and clients of the stations: all but the streams
pub record SameRights (σ τ : State) : Type 0 where
  pub tokens : σ.tokens ≡ τ.tokens
  pub handles : σ.handles ≡ τ.handles
  pub primary : map station_token σ.stations ≡ map station_token τ.stations
  pub clients : map station_client σ.stations ≡ map station_client τ.stations
  pub pairs : σ.pairs ≡ τ.pairs
  pub sids : σ.sids ≡ τ.sids

-- from σ to τ each body is served on what the one before it left, and nothing else alters a token, a handle, a pair, a primary token, a client or
-- the SID table
unfoldable pub OneByOne : State → List Outcome → State → Type 0
OneByOne σ [] τ = SameRights σ τ
OneByOne σ (breaks s ∷ xs) τ = OneByOne σ xs τ
OneByOne σ (serves x ∷ xs) τ = SameRights σ x.before × OneByOne (served_by x).state xs τ
