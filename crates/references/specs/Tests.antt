-- The numbers of what is live, what refers to it, the tokens that stations act for and the linked pairs, as the code tests them. Assumes nothing.
use Rattle.std.specs.Prelude.{ℕ, zero, suc, ◌+◌, ◌%◌, ◌≤◌, ◌≡◌, Bool, not, ◌&&◌, ◌||◌, List, [], ◌∷◌, ◌++◌, eqb, leb, length, take, drop, get_or, if◌then◌else◌}
use Rattle.table.specs.Rows.{read_rows, test_rows}
use Rattle.rules.specs.Basic.{all, distinct, same}
use Rattle.rules.specs.Number.{max32}
use Rattle.rules.specs.Token.{Token, primary, impersonation}
use Rattle.rules.specs.Table.{or_else, found}
use Rattle.rules.specs.Handle.{Handle}
use Rattle.rules.specs.Pair.{Pair}
use Rattle.rules.specs.State.{handle_number, handle_token, token_slots, station_count, pair_slots, is_numbered, no_token}
use Rattle.rules.specs.Valid.{handle_valid, pair_fits}
use Rattle.rules.specs.Head as Head
use Rattle.rules.specs.Memory.{token_words, station_words, primary_word, client_word, level_word, pair_words, session_word, elevated_word, filtered_word, next_token, next_handle, stations_in, pairs_in, pair_at, slot_pair}
use Rattle.token.specs.Meaning.{slots_of}
use Rattle.token_rows.specs.Tests.{slot_test}
use Rattle.lists.specs.Tests.{station_references, reference_slots, is_given, is_apart, refs_test}

-- ---- numbers

unfoldable pub column_by : (List ℕ → ℕ) → ℕ → ℕ → List ℕ → List ℕ
column_by f w zero ws = []
column_by f w (suc n) ws = f (take w ws) ∷ column_by f w n (drop w ws)

abbrev pub first_word : List ℕ → ℕ
first_word row = get_or row Head.number 0

-- a station's primary token
abbrev pub token_in : List ℕ → ℕ
token_in row = get_or row primary_word 0

-- the token that a station acts for; its primary one again where there is none, so that every station has one
abbrev pub client_in : List ℕ → ℕ
client_in row = if eqb (get_or row client_word 0) 0 then get_or row primary_word 0 else get_or row client_word 0

-- the number of a token that is not primary, else 0
abbrev pub other_word : List ℕ → ℕ
other_word row = if eqb (get_or row Head.type 0 % 256) primary then 0 else get_or row Head.number 0

-- f of the elements that k gives a number but 0
unfoldable pub kept : {A : Type 0} → (A → ℕ) → (A → ℕ) → List A → List ℕ
kept k f [] = []
kept k f (a ∷ s) = if eqb (k a) 0 then kept k f s else f a ∷ kept k f s

abbrev pub nonzero : List ℕ → List ℕ
nonzero xs = kept (λ x. x) (λ x. x) xs

abbrev pub is_kept : ℕ → ℕ
is_kept x = if eqb x 0 then 0 else 1

abbrev pub rows_in : ℕ → ℕ → List ℕ → List (List ℕ)
rows_in w n ws = read_rows {B = ℕ} (λ row none. row) w 0 n ws []

-- word k of every live pair's row
abbrev pub pair_column : ℕ → List ℕ → List ℕ
pair_column k ws = kept (λ row. get_or row elevated_word 0) (λ row. get_or row k 0) (rows_in pair_words pair_slots ws)

-- an array of this size has n elements in its front; they are xs

pub record Room (size n : ℕ) (items : List ℕ) : Type 0 where
  pub fits : n ≤ size
  pub long : length items ≡ size

pub record Front (size : ℕ) (xs : List ℕ) (n : ℕ) (items : List ℕ) : Type 0 where
  pub room : Room size n items
  pub front : take n items ≡ xs

-- behind the first n elements of an array stand xs, which end at m
pub record Joined (xs : List ℕ) (n : ℕ) (before items : List ℕ) (m : ℕ) : Type 0 where
  pub long : length items ≡ length before
  pub few : m ≤ n + pair_slots
  pub front : take m items ≡ take n before ++ xs

-- f of every station's row is written behind the first n elements of an array
pub record Added (f : List ℕ → ℕ) (n : ℕ) (ws before items : List ℕ) : Type 0 where
  pub long : length items ≡ reference_slots
  pub held : take n items ≡ take n before
  pub behind : take station_count (drop n items) ≡ column_by f station_words station_count ws

-- an array has n tokens of handles and pairs in its front, which are ts, behind them the stations' primary ones, which are ss, and those that
-- the stations act for, which are cs
pub record Referred (ts ss cs : List ℕ) (n : ℕ) (items : List ℕ) : Type 0 where
  pub room : Room reference_slots (n + station_references) items
  pub front : take (n + station_references) items ≡ ts ++ ss ++ cs
  pub primaries : take station_count (drop n items) ≡ ss

-- ---- handles

-- a free slot is zero, and a live handle's fields are within their ranges
abbrev pub fields_test : Handle → Bool
fields_test h = if eqb h.number 0 then eqb h.station 0 && eqb h.token 0 && eqb h.mask 0 else handle_valid h

-- ---- the tokens that stations act for

-- a token's row, where a station acts for token n with this level in force: it is of another, or of an impersonation token of that level or more
abbrev pub fit_test : ℕ → ℕ → List ℕ → Bool
fit_test n level row =
    not (eqb n (get_or row Head.number 0))
    || (eqb (get_or row Head.type 0 % 256) impersonation && leb level (get_or row Head.level 0 % 256))

abbrev pub all_fit : ℕ → ℕ → List ℕ → Bool
all_fit n level ts = test_rows {B = ℕ} (λ row none. fit_test n level row) token_words 0 token_slots ts []

-- a station's row: it acts for none, or all tokens fit
abbrev pub client_test : List ℕ → List ℕ → Bool
client_test ts row = eqb (get_or row client_word 0) 0 || all_fit (get_or row client_word 0) (get_or row level_word 0) ts

abbrev pub clients_test : List ℕ → List ℕ → Bool
clients_test ts ws = test_rows {B = ℕ} (λ row none. client_test ts row) station_words 0 station_count ws []

-- ---- the linked pairs

-- the live token of a number, as the rows have it: the test asks nothing of its DACL
abbrev pub token_named : List ℕ → ℕ → Token
token_named ts n = or_else no_token (found (is_numbered n) (slots_of ts []))

abbrev pub fits_in : List ℕ → Pair → Bool
fits_in ts p = pair_fits p.session (token_named ts p.elevated) (token_named ts p.filtered)

-- a place's row is what the pair in it is written as, which fits; a free place is zero
unfoldable pub pair_test : List ℕ → List ℕ → Bool
pair_test ts row = same (slot_pair (pair_at row [])) row && slot_test (fits_in ts) (pair_at row [])

abbrev pub places_test : List ℕ → List ℕ → Bool
places_test ts ws = test_rows {B = ℕ} (λ row none. pair_test ts row) pair_words 0 pair_slots ws []

unfoldable pub pairs_test : List ℕ → List ℕ → Bool
pairs_test ts ws = places_test ts ws && distinct (pair_column session_word ws)

-- ---- all of it

-- numbers of tokens, of those that are not primary, of handles, of all that is referred to and of stations' primary tokens
unfoldable pub numbers_test : List ℕ → List ℕ → List ℕ → List ℕ → List ℕ → ℕ → ℕ → Bool
numbers_test ns os hs rs ss next_token next_handle =
    (leb 1 next_token && all (is_given next_token ns) ns)
    && (leb 1 next_handle && all (is_given next_handle hs) hs)
    && leb next_handle max32
    && refs_test ns rs
    && all (is_apart ss) os

-- the parts of the lent memory: tokens, handles, control words
unfoldable pub links_test : List ℕ → List Handle → List ℕ → Bool
links_test ts hs cs =
    all fields_test hs
    && numbers_test (nonzero (column_by first_word token_words token_slots ts)) (nonzero (column_by other_word token_words token_slots ts))
    (kept handle_number handle_number hs)
    (kept handle_number handle_token hs ++ pair_column elevated_word (pairs_in cs) ++ pair_column filtered_word (pairs_in cs) ++ column_by token_in station_words station_count (stations_in cs) ++ column_by client_in station_words station_count (stations_in cs))
    (column_by token_in station_words station_count (stations_in cs)) (next_token cs) (next_handle cs)
    && clients_test ts (stations_in cs)
    && pairs_test ts (pairs_in cs)
