-- What a valid state is: document 01's 'memory is in order', of the values that the memory stands for. Assumes nothing.
use Rattle.std.specs.Prelude.{ℕ, ◌-◌, ◌^◌, Bool, true, false, not, ◌&&◌, List, ◌∷◌, ◌++◌, map, length, eqb, leb, ltb}
use Rattle.rules.specs.Basic.{all, member, distinct, is_empty, implies, both_or_neither}
use Rattle.rules.specs.Number.{max32, max64}
use Rattle.rules.specs.Bits.{has, within}
use Rattle.rules.specs.Mask.{valid_mask}
use Rattle.rules.specs.Privileges.{Privileges, existing}
use Rattle.rules.specs.Group.{Group, sid_of, is_enabled, is_deny_only}
use Rattle.rules.specs.Token.{Token, Identity, Limits, Defaults, max_groups, max_restricting, max_dacl, primary, impersonation, full, limited}
use Rattle.rules.specs.Table.{Table, lives}
use Rattle.rules.specs.Sid.{Sid}
use Rattle.rules.specs.SidTable.{is_number, sids_valid}
use Rattle.rules.specs.Handle.{Handle}
use Rattle.rules.specs.Station.{Station}
use Rattle.rules.specs.Pair.{Pair}
use Rattle.rules.specs.State.{State, token_slots, handle_slots, station_count, pair_slots, number_of, token_of, handle_number, station_token, client_token, references, is_referred}
use Rattle.rules.specs.Create.{valid_integrity}
use Rattle.rules.specs.AdjustDefaults.{valid_owner, valid_group}
use Rattle.rules.specs.Link.{is_of_session}
use Rattle.rules.specs.Frame.{Framed, part, broken, whole, framed}

-- ---- ranges

unfoldable pub is_byte : ℕ → Bool
is_byte n = ltb n 256

unfoldable pub is32 : ℕ → Bool
is32 n = ltb n (2 ^ 32)

unfoldable pub is64 : ℕ → Bool
is64 n = ltb n (2 ^ 64)

unfoldable pub between : ℕ → ℕ → ℕ → Bool
between low high n = leb low n && leb n high

-- ---- a token

-- primary tokens have level 0
unfoldable pub identity_valid : Identity → Bool
identity_valid i =
    is32 i.user && is64 i.session && valid_integrity i.integrity
    && between primary impersonation i.type
    && leb i.level 3
    && implies (eqb i.type primary) (eqb i.level 0)

unfoldable pub privileges_valid : Privileges → Bool
privileges_valid p =
    within p.by_default p.present && within p.enabled p.present && within p.present existing && within p.used existing

-- rule 3's bits and ENABLED; a deny-only group is not enabled
unfoldable pub group_valid : Group → Bool
group_valid g =
    is32 g.sid
    && within g.attributes 0xC000001F
    && both_or_neither (has 30 g.attributes) (has 31 g.attributes)
    && implies (is_deny_only g) (not (is_enabled g))

unfoldable pub groups_valid : List Group → Bool
groups_valid gs = leb (length gs) max_groups && all group_valid gs

unfoldable pub limits_valid : Limits → Bool
limits_valid x = leb (length x.restricting) max_restricting && all is32 x.restricting

unfoldable pub defaults_valid : List Group → Defaults → Bool
defaults_valid gs x = valid_owner gs x.owner && valid_group gs x.primary_group && leb (length x.dacl) max_dacl && all is_byte x.dacl

unfoldable pub token_valid : Token → Bool
token_valid t =
    is64 t.modified && between 1 3 t.elevation && is32 t.scope && leb t.identity.root t.number
    && identity_valid t.identity
    && privileges_valid t.privileges
    && groups_valid t.groups
    && limits_valid t.limits
    && defaults_valid t.groups t.defaults

-- ---- a handle; a station's stream: pending bytes are a part of a frame, and a broken stream has none

unfoldable pub handle_valid : Handle → Bool
handle_valid h = ltb h.station station_count && valid_mask h.mask

unfoldable pub is_part : Framed → Bool
is_part part = true
is_part broken = false
is_part (whole body) = false

unfoldable pub stream_valid : Station → Bool
stream_valid x = all is_byte x.pending && is_part (framed x.pending) && implies x.is_broken (is_empty x.pending)

-- ---- the state

-- the next number isn't 0 and is of its type; the numbers given are distinct, from 1 and below the next
unfoldable pub table_valid : {A : Type 0} → ℕ → ℕ → (A → ℕ) → Table A → Bool
table_valid size top number x =
    eqb (length x.slots) size
    && between 1 top x.next
    && distinct (map number (lives x.slots))
    && all (between 1 (x.next - 1)) (map number (lives x.slots))

unfoldable pub is_token : State → ℕ → Bool
is_token σ n = member n (map number_of (lives σ.tokens.slots))

unfoldable pub primary_at_station : State → Token → Bool
primary_at_station σ t = implies (member t.number (map station_token σ.stations)) (eqb t.identity.type primary)

-- a station that acts for the token acts for an impersonation token, and its level in force is at most the token's own
unfoldable pub client_fits : Token → Station → Bool
client_fits t x =
    implies (eqb (client_token x) t.number) (eqb t.identity.type impersonation && leb x.client.level t.identity.level)

unfoldable pub client_at_stations : State → Token → Bool
client_at_stations σ t = all (client_fits t) σ.stations

-- the level is 0 where a station acts for none
unfoldable pub level_valid : Station → Bool
level_valid x = implies (eqb (client_token x) 0) (eqb x.client.level 0)

-- ---- a linked pair

unfoldable pub session_of : Pair → ℕ
session_of p = p.session

-- its tokens are Full and Limited, primary, of its session and of one user; no token is both
unfoldable pub pair_fits : ℕ → Token → Token → Bool
pair_fits session elevated filtered =
    eqb elevated.elevation full && is_of_session session elevated
    && eqb filtered.elevation limited && is_of_session session filtered
    && eqb elevated.identity.user filtered.identity.user

unfoldable pub pair_valid : State → Pair → Bool
pair_valid σ p = pair_fits p.session (token_of σ p.elevated) (token_of σ p.filtered)

-- pairs are of different sessions
unfoldable pub pairs_valid : State → Bool
pairs_valid σ = eqb (length σ.pairs) pair_slots && distinct (map session_of (lives σ.pairs)) && all (pair_valid σ) (lives σ.pairs)

-- ---- the SID table

-- the SIDs that a token keeps, by their numbers: its user's, its groups' and its restricting ones
unfoldable pub sid_numbers : Token → List ℕ
sid_numbers t = t.identity.user ∷ (map sid_of t.groups ++ t.limits.restricting)

-- each of them is in the table
unfoldable pub is_listed : List Sid → Token → Bool
is_listed sids t = all (is_number sids) (sid_numbers t)

-- ---- all of it

-- references are live, every token is referred to, station tokens are primary in type, and those acted for fit their stations
unfoldable pub valid : State → Bool
valid σ =
    table_valid token_slots max64 number_of σ.tokens
    && table_valid handle_slots max32 handle_number σ.handles
    && eqb (length σ.stations) station_count
    && all token_valid (lives σ.tokens.slots)
    && all handle_valid (lives σ.handles.slots)
    && all stream_valid σ.stations
    && all (is_token σ) (references σ)
    && all (is_referred σ) (lives σ.tokens.slots)
    && all (primary_at_station σ) (lives σ.tokens.slots)
    && all (client_at_stations σ) (lives σ.tokens.slots)
    && all level_valid σ.stations
    && pairs_valid σ
    && sids_valid σ.sids
    && all (is_listed σ.sids) (lives σ.tokens.slots)
