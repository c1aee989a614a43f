-- What the functions over the linked pairs' rows give: of the pairs that are read from the words, and, where they are stored, of every state
-- that the words hold. Assumes nothing.
use Rattle.std.specs.Prelude.{ℕ, ◌<◌, ◌≡◌, Option, unwrap_or, IfSome, Bool, List, [], ◌++◌, map, ltb, get_or, set, if◌then◌else◌}
use Rattle.table.specs.Rows.{read_rows}
use Rattle.rules.specs.Basic.{member}
use Rattle.rules.specs.Table.{Slot, free, live, lives}
use Rattle.rules.specs.Pair as rules
use Rattle.rules.specs.Pair.{is_of}
use Rattle.rules.specs.State.{State, pair_slots, with_pairs, elevated_token, filtered_token}
use Rattle.rules.specs.Index.{free_index, found_index}
use Rattle.rules.specs.Memory.{pair_words, session_word, elevated_word, filtered_word, pair_word_at, pairs_in, pair_at}
use Rattle.control.specs.Control.{ControlIn}
use Rattle.control.specs.declared.pairs.Pair.{Pair}

-- the pairs in the words, as Memory reads them
abbrev pub pairs_of : List ℕ → List (Slot rules.Pair)
pairs_of ws = read_rows pair_at pair_words 0 pair_slots (pairs_in ws) []

abbrev pub pair_of : (session elevated filtered : ℕ) → rules.Pair
pair_of session elevated filtered = record { session = session; elevated = elevated; filtered = filtered }

-- ---- looking

pub record RowGiven (place : ℕ) (ws : List ℕ) (r : Pair) : Type 0 where
  pub session : r.session ≡ get_or ws (pair_word_at place session_word) 0
  pub elevated : r.elevated ≡ get_or ws (pair_word_at place elevated_word) 0
  pub filtered : r.filtered ≡ get_or ws (pair_word_at place filtered_word) 0
  -- a pair that is read there
  pub pair : (p : rules.Pair) → get_or (pairs_of ws) place free ≡ live p → pair_of r.session r.elevated r.filtered ≡ p

-- the row at a place, as the code reads it
abbrev pub row_in : List ℕ → ℕ → Pair
row_in ws place = record { session = get_or ws (pair_word_at place session_word) 0; elevated = get_or ws (pair_word_at place elevated_word) 0; filtered = get_or ws (pair_word_at place filtered_word) 0 }

pub record PairFound (f : rules.Pair → Bool) (ws : List ℕ) (r : Option ℕ) : Type 0 where
  pub index : unwrap_or r pair_slots ≡ found_index f (pairs_of ws)
  pub within : IfSome r (λ k. k < pair_slots)

pub record PlaceFree (ws : List ℕ) (r : Option ℕ) : Type 0 where
  pub index : unwrap_or r pair_slots ≡ free_index (pairs_of ws)
  pub within : IfSome r (λ k. k < pair_slots)

-- the place of the session's pair, or the lowest free one
abbrev pub place_for : ℕ → List (Slot rules.Pair) → ℕ
place_for session ps = if ltb (found_index (is_of session) ps) pair_slots then found_index (is_of session) ps else free_index ps

pub record PlaceGiven (session : ℕ) (ws : List ℕ) (r : Option ℕ) : Type 0 where
  pub index : unwrap_or r pair_slots ≡ place_for session (pairs_of ws)
  pub within : IfSome r (λ k. k < pair_slots)

-- ---- storing

pub record PairSet (place : ℕ) (p : Pair) (ws ws' : List ℕ) : Type 0 where
  pub control : (σ : State) → ControlIn σ ws → ControlIn (with_pairs (set σ.pairs place (live (pair_of p.session p.elevated p.filtered))) σ) ws'

-- ---- references

-- those of State.references that are pairs'
pub record PairsRefer (token : ℕ) (ws : List ℕ) (r : Bool) : Type 0 where
  pub refer : r ≡ member token (map elevated_token (lives (pairs_of ws)) ++ map filtered_token (lives (pairs_of ws)))
