-- The refusals, with document 01's numbers. Assumes nothing.
use Rattle.std.specs.Prelude.{ℕ, List, [], ◌∷◌}
use Rattle.rules.specs.Number.{encode}

-- a refusal of a request: its number, and what the answer says after it
pub record Refusal : Type 0 where
  pub number : ℕ
  pub report : List ℕ

unfoldable pub refusal : ℕ → Refusal
refusal n = record { number = n; report = [] }

-- unknown request, body not in its layout, or bytes left
abbrev pub malformed : Refusal
malformed = refusal 1

-- the handle isn't this station's live one
abbrev pub not_aLive_handle : Refusal
not_aLive_handle = refusal 2

abbrev pub right_missing : Refusal
right_missing = refusal 3

abbrev pub privilege_not_held : Refusal
privilege_not_held = refusal 4

-- a field or entry bad, unknown class, installing a token that is not primary, acting for one that is, or linking two that make no pair
abbrev pub bad_field : Refusal
bad_field = refusal 5

abbrev pub protected_group : Refusal
protected_group = refusal 6

-- installing a token of another user or session
abbrev pub install_mismatch : Refusal
install_mismatch = refusal 7

-- a restricted server, and a client that isn't: gate one does not pass
abbrev pub restricted_server : Refusal
restricted_server = refusal 7

-- a needed slot is not free, a needed next number is unusable, over 16 restricting SIDs, a fifth session would have a linked pair, or
-- the SID table would have over 256
abbrev pub table_full : Refusal
table_full = refusal 8

-- the capacity given is below the query's size, which is told
unfoldable pub capacity_below : ℕ → Refusal
capacity_below size = record { number = 9; report = encode size }

-- the token is in no linked pair
abbrev pub not_linked : Refusal
not_linked = refusal 14

-- by rank: of the refusals that apply to a request it gets the first here ('lowest of 1 to 9', and 14, which is 'checked before 8')
abbrev pub ranks : List ℕ
ranks = 1 ∷ 2 ∷ 3 ∷ 4 ∷ 5 ∷ 6 ∷ 7 ∷ 14 ∷ 8 ∷ 9 ∷ []

-- ---- the stream: answered once, at the byte that breaks it

abbrev pub stream_broken : ℕ
stream_broken = 10

-- ---- calls: nothing is used, answered or written

-- the station is above 7
abbrev pub no_station : ℕ
no_station = 11

-- the answer buffer is under 1,024 bytes
abbrev pub short_buffer : ℕ
short_buffer = 12

-- document 01: 'memory not in order'
abbrev pub invalid_memory : ℕ
invalid_memory = 13
