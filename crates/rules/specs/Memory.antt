-- The lent memory: how a state is written in it, what it stands for, and when it is valid (document 01: 'memory is in order').
-- A state is written in one way only. Assumes nothing.
use Rattle.std.specs.Prelude.{ℕ, ◌+◌, ◌*◌, ◌/◌, ◌%◌, Bool, true, false, ◌&&◌, List, [], ◌∷◌, ◌++◌, map, length, take, drop, get_or, replicate, eqb, if◌then◌else◌}
use Rattle.table.specs.Lists.{pad}
use Rattle.table.specs.Table.{flat}
use Rattle.table.specs.Rows.{read_rows}
use Rattle.table.specs.Sections.{total, place_of, joined, section}
use Rattle.rules.specs.Basic.{same, word32}
use Rattle.rules.specs.Privileges.{Privileges}
use Rattle.rules.specs.Group.{Group}
use Rattle.rules.specs.Token.{Token, Identity, Limits, Defaults, max_groups, max_restricting, max_dacl}
use Rattle.rules.specs.Table.{Slot, free, live}
use Rattle.rules.specs.Handle.{Handle, no_handle}
use Rattle.rules.specs.Station.{Station}
use Rattle.rules.specs.Pair.{Pair}
use Rattle.rules.specs.SidRows.{sid_words, write_sids, sids_at}
use Rattle.rules.specs.State.{State, token_slots, handle_slots, station_count, pair_slots}
use Rattle.rules.specs.Frame.{max_body}
use Rattle.rules.specs.Valid as Valid
use Rattle.rules.specs.Head as Head

-- words and bytes, but for the handle list, which is a list of records
pub record Memory : Type 0 where
  pub tokens : List ℕ
  pub dacls : List ℕ
  pub handles : List Handle
  pub control : List ℕ
  pub pending : List ℕ

-- ---- sizes

-- a token's row: its scalars and counts, then its groups, then its restricting SIDs
abbrev pub head_words : ℕ
head_words = 21

abbrev pub token_words : ℕ
token_words = head_words + max_groups + max_restricting

-- a station's pending bytes: a frame's two length bytes and its body
abbrev pub pending_bytes : ℕ
pending_bytes = max_body + 2

-- ---- the control words: what the broker keeps beside tokens, handles and pending bytes, in sections of fixed sizes one after the other.
-- What is new goes to the end, a section behind the last and a word behind the others of its row

-- the two next numbers
abbrev pub token_counter : ℕ
token_counter = 0

abbrev pub handle_counter : ℕ
handle_counter = 1

abbrev pub counter_words : ℕ
counter_words = 2

-- a station's row: its primary token, how many bytes are pending, whether the stream is broken, the token that it acts for and the level in
-- force
abbrev pub primary_word : ℕ
primary_word = 0

abbrev pub count_word : ℕ
count_word = 1

abbrev pub broken_word : ℕ
broken_word = 2

abbrev pub client_word : ℕ
client_word = 3

abbrev pub level_word : ℕ
level_word = 4

abbrev pub station_words : ℕ
station_words = 5

-- a linked pair's row: its session, its elevated token and its filtered one
abbrev pub session_word : ℕ
session_word = 0

abbrev pub elevated_word : ℕ
elevated_word = 1

abbrev pub filtered_word : ℕ
filtered_word = 2

abbrev pub pair_words : ℕ
pair_words = 3

-- the sections
abbrev pub counter_section : ℕ
counter_section = 0

abbrev pub station_section : ℕ
station_section = 1

abbrev pub pair_section : ℕ
pair_section = 2

-- the SID table
abbrev pub sid_section : ℕ
sid_section = 3

abbrev pub control_sizes : List ℕ
control_sizes = counter_words ∷ station_count * station_words ∷ pair_slots * pair_words ∷ sid_words ∷ []

abbrev pub control_words : ℕ
control_words = total control_sizes

abbrev pub next_token : List ℕ → ℕ
next_token ws = get_or ws token_counter 0

abbrev pub next_handle : List ℕ → ℕ
next_handle ws = get_or ws handle_counter 0

abbrev pub stations_in : List ℕ → List ℕ
stations_in ws = section control_sizes station_section ws

abbrev pub pairs_in : List ℕ → List ℕ
pairs_in ws = section control_sizes pair_section ws

abbrev pub sids_in : List ℕ → List ℕ
sids_in ws = section control_sizes sid_section ws

-- where word k of station s stands
abbrev pub station_word_at : ℕ → ℕ → ℕ
station_word_at s k = place_of control_sizes station_section + (s * station_words + k)

-- where word k of pair i stands
abbrev pub pair_word_at : ℕ → ℕ → ℕ
pair_word_at i k = place_of control_sizes pair_section + (i * pair_words + k)

-- ---- every part has its size

unfoldable pub sized : Memory → Bool
sized m =
    eqb (length m.tokens) (token_slots * token_words)
    && eqb (length m.dacls) (token_slots * max_dacl)
    && eqb (length m.handles) handle_slots
    && eqb (length m.control) control_words
    && eqb (length m.pending) (station_count * pending_bytes)

-- ---- words

abbrev pub low32 : ℕ → ℕ
low32 w = w % word32

abbrev pub low8 : ℕ → ℕ
low8 w = w % 256

unfoldable pub mark : Bool → ℕ
mark true = 1
mark false = 0

-- a group is one word: SID + attributes · 2^32
unfoldable pub pack : Group → ℕ
pack g = g.sid + g.attributes * word32

unfoldable pub unpack : ℕ → Group
unpack w = record { sid = w % word32; attributes = w / word32 }

-- ---- a state, written

unfoldable pub head : Token → List ℕ
head t =
    t.number ∷ t.modified ∷ t.identity.session ∷ t.identity.user ∷ t.identity.type ∷ t.identity.level ∷ t.elevation
    ∷ mark t.limits.write_restricted ∷ mark t.limits.user_deny_only
    ∷ t.defaults.owner ∷ t.defaults.primary_group ∷ t.scope ∷ t.identity.integrity
    ∷ t.privileges.present ∷ t.privileges.enabled ∷ t.privileges.by_default ∷ t.privileges.used
    ∷ length t.groups ∷ length t.limits.restricting ∷ length t.defaults.dacl ∷ t.identity.root ∷ []

unfoldable pub token_row : Token → List ℕ
token_row t = head t ++ (pad max_groups (map pack t.groups) ++ pad max_restricting t.limits.restricting)

unfoldable pub dacl_row : Token → List ℕ
dacl_row t = pad max_dacl t.defaults.dacl

-- a free slot is all zero
unfoldable pub slot_row : Slot Token → List ℕ
slot_row free = replicate token_words 0
slot_row (live t) = token_row t

unfoldable pub slot_dacl : Slot Token → List ℕ
slot_dacl free = replicate max_dacl 0
slot_dacl (live t) = dacl_row t

unfoldable pub slot_handle : Slot Handle → Handle
slot_handle free = no_handle
slot_handle (live h) = h

unfoldable pub station_row : Station → List ℕ
station_row x = x.token ∷ length x.pending ∷ mark x.is_broken ∷ x.client.token ∷ x.client.level ∷ []

unfoldable pub pair_row : Pair → List ℕ
pair_row p = p.session ∷ p.elevated ∷ p.filtered ∷ []

unfoldable pub slot_pair : Slot Pair → List ℕ
slot_pair free = replicate pair_words 0
slot_pair (live p) = pair_row p

abbrev pub counters : State → List ℕ
counters σ = σ.tokens.next ∷ σ.handles.next ∷ []

unfoldable pub sections : State → List (List ℕ)
sections σ = counters σ ∷ flat station_row σ.stations ∷ flat slot_pair σ.pairs ∷ write_sids σ.sids ∷ []

unfoldable pub control : State → List ℕ
control σ = joined (sections σ)

unfoldable pub pending_row : Station → List ℕ
pending_row x = pad pending_bytes x.pending

unfoldable pub encode : State → Memory
encode σ =
    record {
      tokens = flat slot_row σ.tokens.slots;
      dacls = flat slot_dacl σ.tokens.slots;
      handles = map slot_handle σ.handles.slots;
      control = control σ;
      pending = flat pending_row σ.stations;
    }

-- ---- what memory stands for

unfoldable pub identity_at : List ℕ → Identity
identity_at ws =
    record {
      user = low32 (get_or ws Head.user 0);
      session = get_or ws Head.session 0;
      type = low8 (get_or ws Head.type 0);
      level = low8 (get_or ws Head.level 0);
      integrity = low32 (get_or ws Head.integrity 0);
      root = get_or ws Head.root 0;
    }

unfoldable pub privileges_at : List ℕ → Privileges
privileges_at ws = record { present = get_or ws Head.present 0; enabled = get_or ws Head.enabled 0; by_default = get_or ws Head.by_default 0; used = get_or ws Head.used 0 }

unfoldable pub groups_at : List ℕ → List Group
groups_at ws = map unpack (take (get_or ws Head.group_count 0) (take max_groups (drop head_words ws)))

unfoldable pub limits_at : List ℕ → Limits
limits_at ws =
    record {
      restricting = map low32 (take (get_or ws Head.restricting_count 0) (drop (head_words + max_groups) ws));
      write_restricted = eqb (get_or ws Head.write_restricted 0) 1;
      user_deny_only = eqb (get_or ws Head.user_deny_only 0) 1;
    }

unfoldable pub defaults_at : List ℕ → List ℕ → Defaults
defaults_at ws bs = record { owner = low32 (get_or ws Head.owner 0); primary_group = low32 (get_or ws Head.primary_group 0); dacl = take (get_or ws Head.dacl_length 0) bs }

unfoldable pub token_at : List ℕ → List ℕ → Token
token_at ws bs =
    record {
      number = get_or ws Head.number 0;
      modified = get_or ws Head.modified 0;
      elevation = low8 (get_or ws Head.elevation 0);
      identity = identity_at ws;
      privileges = privileges_at ws;
      groups = groups_at ws;
      limits = limits_at ws;
      defaults = defaults_at ws bs;
      scope = low32 (get_or ws Head.scope 0);
    }

-- number 0 is given to no token and to no handle: the slot is free, and so is a pair's
unfoldable pub slot_at : List ℕ → List ℕ → Slot Token
slot_at ws bs = if eqb (get_or ws Head.number 0) 0 then free else live (token_at ws bs)

unfoldable pub handle_at : Handle → Slot Handle
handle_at h = if eqb h.number 0 then free else live h

unfoldable pub station_at : List ℕ → List ℕ → Station
station_at ws bs =
    record {
      token = get_or ws primary_word 0;
      client = record { token = get_or ws client_word 0; level = get_or ws level_word 0 };
      pending = take (get_or ws count_word 0) bs;
      is_broken = eqb (get_or ws broken_word 0) 1;
    }

unfoldable pub pair_at : List ℕ → List ℕ → Slot Pair
pair_at ws none =
    if eqb (get_or ws elevated_word 0) 0 then free else
    live (record { session = get_or ws session_word 0; elevated = get_or ws elevated_word 0; filtered = get_or ws filtered_word 0 })

unfoldable pub decode : Memory → State
decode m =
    record {
      tokens = record { slots = read_rows slot_at token_words max_dacl token_slots m.tokens m.dacls; next = next_token m.control };
      handles = record { slots = map handle_at m.handles; next = next_handle m.control };
      stations = read_rows station_at station_words pending_bytes station_count (stations_in m.control) m.pending;
      pairs = read_rows pair_at pair_words 0 pair_slots (pairs_in m.control) [];
      sids = sids_at (sids_in m.control);
    }

-- ---- valid memory: its sizes are right, it is what the state that it stands for is written as, and that state is valid

unfoldable pub same_handle : Handle → Handle → Bool
same_handle a b = eqb a.station b.station && eqb a.number b.number && eqb a.token b.token && eqb a.mask b.mask

unfoldable pub same_handles : List Handle → List Handle → Bool
same_handles [] [] = true
same_handles [] (y ∷ ys) = false
same_handles (x ∷ xs) [] = false
same_handles (x ∷ xs) (y ∷ ys) = same_handle x y && same_handles xs ys

unfoldable pub same_memory : Memory → Memory → Bool
same_memory a b =
    same a.tokens b.tokens && same a.dacls b.dacls && same_handles a.handles b.handles && same a.control b.control && same a.pending b.pending

unfoldable pub is_image : Memory → Bool
is_image m = same_memory (encode (decode m)) m

unfoldable pub valid : Memory → Bool
valid m = sized m && is_image m && Valid.valid (decode m)
