-- What the functions over the stations' rows give, for every state that the words hold. Assumes nothing.
use Rattle.std.specs.Prelude.{ℕ, ◌≡◌, Bool, List, ◌++◌, map, length, get_or, set}
use Rattle.rules.specs.Basic.{member, non_zero}
use Rattle.rules.specs.Station as rules
use Rattle.rules.specs.Station.{Station}
use Rattle.rules.specs.State.{State, station_at, change_station, caller_number, set_token, client_at, set_client, station_token, client_token}
use Rattle.rules.specs.Memory.{count_word, broken_word, mark, station_row}
use Rattle.control.specs.Control.{ControlIn}
use Rattle.control.specs.declared.stations.Client.{Client}
use Rattle.control.specs.declared.stations.Stream.{Stream}

-- word k of a station's row
pub record WordGiven (station k : ℕ) (ws : List ℕ) (r : ℕ) : Type 0 where
  pub word : (σ : State) → ControlIn σ ws → r ≡ get_or (station_row (station_at σ station)) k 0

-- ---- the primary token

pub record CallerNumber (station : ℕ) (ws : List ℕ) (r : ℕ) : Type 0 where
  pub number : (σ : State) → ControlIn σ ws → r ≡ caller_number σ station

pub record TokenSet (station number : ℕ) (ws ws' : List ℕ) : Type 0 where
  pub control : (σ : State) → ControlIn σ ws → ControlIn (set_token station number σ) ws'

-- ---- the token that a station acts for

abbrev pub client_of : Client → rules.Client
client_of c = record { token = c.token; level = c.level }

pub record ClientGiven (station : ℕ) (ws : List ℕ) (r : Client) : Type 0 where
  pub client : (σ : State) → ControlIn σ ws → client_of r ≡ client_at σ station

pub record ClientSet (station token level : ℕ) (ws ws' : List ℕ) : Type 0 where
  pub control : (σ : State) → ControlIn σ ws → ControlIn (set_client station (record { token = token; level = level }) σ) ws'

-- ---- references

abbrev pub column : ℕ → List Station → List ℕ
column k xs = map (λ x. get_or (station_row x) k 0) xs

pub record StationsHave (n k : ℕ) (ws : List ℕ) (r : Bool) : Type 0 where
  pub have : (σ : State) → ControlIn σ ws → r ≡ member n (column k σ.stations)

-- those of State.references that are stations'
pub record StationsRefer (token : ℕ) (ws : List ℕ) (r : Bool) : Type 0 where
  pub refer : (σ : State) → ControlIn σ ws → r ≡ member token (map station_token σ.stations ++ non_zero (map client_token σ.stations))

-- ---- the stream

pub record StreamGiven (station : ℕ) (ws : List ℕ) (r : Stream) : Type 0 where
  pub count : (σ : State) → ControlIn σ ws → r.count ≡ length (station_at σ station).pending
  pub broken : (σ : State) → ControlIn σ ws → r.broken ≡ (station_at σ station).is_broken

-- a row whose stream has count bytes pending, and is broken or not
abbrev pub stream_row : ℕ → Bool → List ℕ → List ℕ
stream_row count broken row = set (set row count_word count) broken_word (mark broken)

-- of every change of the station that does so to its row
pub record StreamSet (station count : ℕ) (broken : Bool) (ws ws' : List ℕ) : Type 0 where
  pub control : (σ : State) (f : Station → Station) → ((x : Station) → station_row (f x) ≡ stream_row count broken (station_row x))
      → ControlIn σ ws → ControlIn (change_station station f σ) ws'
