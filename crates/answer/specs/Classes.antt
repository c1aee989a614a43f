-- What a query answers of a token's row, class by class. Assumes nothing.
use Rattle.std.specs.Prelude.{ℕ, ◌+◌, ◌/◌, ◌≡◌, List, [], ◌∷◌, length, get_or}
use Rattle.rules.specs.Number.{encode}
use Rattle.rules.specs.Token.{sid_at, max_restricting, max_dacl}
use Rattle.rules.specs.Query.{pairs, class_bytes}
use Rattle.rules.specs.Head as Head
use Rattle.rules.specs.Basic.{word32}
use Rattle.rules.specs.Memory.{low8, low32, groups_at, limits_at, token_at}

-- ---- the classes of several numbers

-- the status, a count and all restricting SIDs
abbrev pub max_sids : ℕ
max_sids = 2 + max_restricting

-- class 2
abbrev pub group_numbers : List ℕ → List ℕ
group_numbers ws = length (groups_at ws) ∷ pairs (groups_at ws)

-- class 3
abbrev pub privilege_words : List ℕ → List ℕ
privilege_words ws = get_or ws Head.present 0 ∷ get_or ws Head.enabled 0 ∷ get_or ws Head.by_default 0 ∷ get_or ws Head.used 0 ∷ []

-- class 9
abbrev pub statistics : List ℕ → List ℕ
statistics ws = get_or ws Head.number 0 ∷ get_or ws Head.session 0 ∷ get_or ws Head.modified 0 ∷ low8 (get_or ws Head.type 0) ∷ get_or ws Head.root 0 ∷ []

-- class 10
abbrev pub sid_numbers : List ℕ → List ℕ
sid_numbers ws = length (limits_at ws).restricting ∷ (limits_at ws).restricting

-- how long a group's two numbers are, and a SID's one, of its word
abbrev pub pair_size : ℕ → ℕ
pair_size w = length (encode (low32 w)) + length (encode (w / word32))

abbrev pub sid_size : ℕ → ℕ
sid_size w = length (encode (low32 w))

-- ---- the classes of one number

-- r is the class's number, whatever the DACL
pub record RowOne (ws : List ℕ) (class r : ℕ) : Type 0 where
  pub bytes : (bs : List ℕ) → class_bytes (token_at ws bs) class ≡ encode r

-- r is the SID that an index names
pub record RowSid (ws : List ℕ) (index r : ℕ) : Type 0 where
  pub sid : (bs : List ℕ) → r ≡ sid_at (token_at ws bs) index

-- ---- how long a class is

pub record RowCounted (ws : List ℕ) (class r : ℕ) : Type 0 where
  pub counted : (bs : List ℕ) → length bs ≡ max_dacl → r ≡ length (class_bytes (token_at ws bs) class)
