-- What the broker keeps (document 01: 'What the desk keeps'). Assumes nothing.
use Rattle.std.specs.Prelude.{ℕ, ◌^◌, Bool, ◌||◌, List, [], ◌++◌, map, get_or, replicate, eqb, if◌then◌else◌}
use Rattle.rules.specs.Basic.{member, non_zero, change_at}
use Rattle.rules.specs.Number.{max32, max64}
use Rattle.rules.specs.Privileges.{is_enabled, mark_used, granted}
use Rattle.rules.specs.Token.{Token, with_privileges, start_token, new_token, primary_of}
use Rattle.rules.specs.Table.{Slot, free, live, Table, is_live, or_else, lives, some_free, can_add, placed, added, found, exchanged, retained, with_slots}
use Rattle.rules.specs.Handle.{Handle, no_handle, is_handle}
use Rattle.rules.specs.Station.{Station, Client, start_station, with_token, with_client}
use Rattle.rules.specs.Sid.{Sid}
use Rattle.rules.specs.SidTable.{start_sids}
use Rattle.rules.specs.Given.{Given, entered_all}
use Rattle.rules.specs.Pair as Pair
use Rattle.rules.specs.Pair.{Pair}

pub record State : Type 0 where
  pub tokens : Table Token
  pub handles : Table Handle
  pub stations : List Station
  pub pairs : List (Slot Pair)
  pub sids : List Sid

abbrev pub token_slots : ℕ
token_slots = 16

abbrev pub handle_slots : ℕ
handle_slots = 32

abbrev pub station_count : ℕ
station_count = 8

-- up to four sessions have a linked pair
abbrev pub pair_slots : ℕ
pair_slots = 4

unfoldable pub start : State
start =
    record {
      tokens = record { slots = placed start_token (replicate token_slots free); next = 2 };
      handles = record { slots = replicate handle_slots free; next = 1 };
      stations = replicate station_count start_station;
      pairs = replicate pair_slots free;
      sids = start_sids;
    }

unfoldable pub with_tokens : Table Token → State → State
with_tokens x σ = record { tokens = x; handles = σ.handles; stations = σ.stations; pairs = σ.pairs; sids = σ.sids }

unfoldable pub with_handles : Table Handle → State → State
with_handles x σ = record { tokens = σ.tokens; handles = x; stations = σ.stations; pairs = σ.pairs; sids = σ.sids }

unfoldable pub with_stations : List Station → State → State
with_stations xs σ = record { tokens = σ.tokens; handles = σ.handles; stations = xs; pairs = σ.pairs; sids = σ.sids }

unfoldable pub with_pairs : List (Slot Pair) → State → State
with_pairs ps σ = record { tokens = σ.tokens; handles = σ.handles; stations = σ.stations; pairs = ps; sids = σ.sids }

unfoldable pub with_sids : List Sid → State → State
with_sids x σ = record { tokens = σ.tokens; handles = σ.handles; stations = σ.stations; pairs = σ.pairs; sids = x }

-- ---- stations

unfoldable pub station_at : State → ℕ → Station
station_at σ s = get_or σ.stations s start_station

unfoldable pub change_station : ℕ → (Station → Station) → State → State
change_station s f σ = with_stations (change_at s f σ.stations) σ

-- station s gets token n for its primary one
unfoldable pub set_token : ℕ → ℕ → State → State
set_token s n σ = change_station s (with_token n) σ

-- the token that a station acts for, with the level in force
unfoldable pub client_at : State → ℕ → Client
client_at σ s = (station_at σ s).client

unfoldable pub set_client : ℕ → Client → State → State
set_client s c σ = change_station s (with_client c) σ

-- ---- tokens

unfoldable pub number_of : Token → ℕ
number_of t = t.number

unfoldable pub is_numbered : ℕ → Token → Bool
is_numbered n t = eqb t.number n

unfoldable pub no_token : Token
no_token = new_token 0 (primary_of 0 0 0 0) (granted 0 0) []

-- the live token of a number
unfoldable pub token_of : State → ℕ → Token
token_of σ n = or_else no_token (found (is_numbered n) σ.tokens.slots)

-- the number of a station's primary token, and that token
unfoldable pub caller_number : State → ℕ → ℕ
caller_number σ s = (station_at σ s).token

unfoldable pub caller : State → ℕ → Token
caller σ s = token_of σ (caller_number σ s)

-- a privilege is held: enabled on the caller's primary token
unfoldable pub held : State → ℕ → ℕ → Bool
held σ s n = is_enabled n (caller σ s).privileges

-- the token of t's number becomes t
unfoldable pub put_token : Token → State → State
put_token t σ = with_tokens (with_slots (exchanged (is_numbered t.number) (live t) σ.tokens.slots) σ.tokens) σ

-- token n becomes f of it
unfoldable pub change_token : ℕ → (Token → Token) → State → State
change_token n f σ = put_token (f (token_of σ n)) σ

unfoldable pub used_on : ℕ → Token → Token
used_on n t = with_privileges (mark_used (2 ^ n) t.privileges) t

-- a success needed privilege n: its used bit is set on the station's primary token
unfoldable pub used : ℕ → ℕ → State → State
used n s σ = change_token (caller_number σ s) (used_on n) σ

unfoldable pub can_add_token : State → Bool
can_add_token σ = can_add max64 σ.tokens

-- a new token, whose number is the next one
unfoldable pub add_token : Token → State → State
add_token t σ = with_tokens (added t σ.tokens) σ

-- ---- handles

unfoldable pub handle_number : Handle → ℕ
handle_number h = h.number

-- the live handle n of station s
unfoldable pub find_handle : State → ℕ → ℕ → Slot Handle
find_handle σ s n = found (is_handle s n) σ.handles.slots

unfoldable pub handle_of : State → ℕ → ℕ → Handle
handle_of σ s n = or_else no_handle (find_handle σ s n)

unfoldable pub can_add_handle : State → Bool
can_add_handle σ = can_add max32 σ.handles

-- a new handle of station s on token n
unfoldable pub add_handle : ℕ → ℕ → ℕ → State → State
add_handle s n mask σ = with_handles (added (record { station = s; number = σ.handles.next; token = n; mask = mask }) σ.handles) σ

unfoldable pub drop_handle : ℕ → ℕ → State → State
drop_handle s n σ = with_handles (with_slots (exchanged (is_handle s n) free σ.handles.slots) σ.handles) σ

-- ---- linked pairs

-- the pair that token n is in
unfoldable pub pair_of : State → ℕ → Slot Pair
pair_of σ n = found (Pair.has n) σ.pairs

unfoldable pub has_pair : State → ℕ → Bool
has_pair σ session = is_live (found (Pair.is_of session) σ.pairs)

-- the session has a pair, which is then replaced, or there is a free place
unfoldable pub can_link : State → ℕ → Bool
can_link σ session = has_pair σ session || some_free σ.pairs

-- a new pair of a session takes the place of its old one
unfoldable pub set_pair : Pair → State → State
set_pair p σ =
    with_pairs (if has_pair σ p.session then exchanged (Pair.is_of p.session) (live p) σ.pairs else placed p σ.pairs) σ

-- ---- the SID table

-- the SIDs that a request gives have entered, in its order
unfoldable pub entering : List Given → State → State
entering xs σ = with_sids (entered_all xs σ.sids) σ

-- ---- references: a token lives while a handle, a station or a linked pair refers to it, a station by its primary token or by the one that
-- it acts for

unfoldable pub handle_token : Handle → ℕ
handle_token h = h.token

unfoldable pub station_token : Station → ℕ
station_token x = x.token

unfoldable pub station_client : Station → Client
station_client x = x.client

unfoldable pub client_token : Station → ℕ
client_token x = x.client.token

unfoldable pub elevated_token : Pair → ℕ
elevated_token p = p.elevated

unfoldable pub filtered_token : Pair → ℕ
filtered_token p = p.filtered

unfoldable pub references : State → List ℕ
references σ =
    map handle_token (lives σ.handles.slots)
    ++ map station_token σ.stations
    ++ non_zero (map client_token σ.stations)
    ++ map elevated_token (lives σ.pairs)
    ++ map filtered_token (lives σ.pairs)

unfoldable pub is_referred : State → Token → Bool
is_referred σ t = member t.number (references σ)

-- every token that nothing refers to is freed
unfoldable pub released : State → State
released σ = with_tokens (with_slots (retained (is_referred σ) σ.tokens.slots) σ.tokens) σ
