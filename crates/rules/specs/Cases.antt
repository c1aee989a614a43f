-- Cases A to L of document 01, 'A first minute at station 0': one table and one claim, proved by computing. Assumes nothing.
use Rattle.std.specs.Prelude.{ℕ, zero, suc, ◌+◌, ◌≡◌, List, [], ◌∷◌, ◌++◌, map, replicate}
use Rattle.rules.specs.Token.{next_modified}
use Rattle.rules.specs.State.{State, start, change_token}
use Rattle.rules.specs.Frame.{max_answer}
use Rattle.rules.specs.Run.{Call, feeds, returned, after}

-- ---- feeds

unfoldable pub at : ℕ → List (List ℕ) → List Call
at s chunks = map (λ x. feeds s x max_answer) chunks

-- the answer of each, also where there is none
unfoldable pub answers_from : State → List Call → List (List ℕ)
answers_from σ [] = []
answers_from σ (c ∷ cs) = (returned σ c).answer ∷ answers_from (returned σ c).after cs

unfoldable pub answers : List Call → List (List ℕ)
answers cs = answers_from start cs

-- ---- requests and answers of the cases

unfoldable pub open_with : ℕ → List ℕ
open_with mask = 0x02 ∷ 0x01 ∷ mask ∷ []

-- request 5 on handle 1, one pair
unfoldable pub adjust : ℕ → ℕ → List ℕ
adjust n attributes = 0x05 ∷ 0x05 ∷ 0x01 ∷ 0x01 ∷ n ∷ attributes ∷ []

-- request 4 on handle 1, class 3
unfoldable pub query_words : ℕ → List ℕ
query_words capacity = 0x04 ∷ 0x04 ∷ 0x01 ∷ 0x03 ∷ capacity ∷ []

unfoldable pub status : ℕ → List ℕ
status n = 0x01 ∷ n ∷ []

unfoldable pub handle : ℕ → List ℕ
handle n = 0x02 ∷ 0x00 ∷ n ∷ []

-- k handles, n and on
unfoldable pub handles : ℕ → ℕ → List (List ℕ)
handles zero n = []
handles (suc k) n = handle n ∷ handles k (n + 1)

-- the answer of case C
unfoldable pub words : List ℕ
words =
    0x14 ∷ 0x00 ∷ 0xFC ∷ 0xFF ∷ 0xFF ∷ 0xFF ∷ 0xFF ∷ 0x03 ∷ 0xFC ∷ 0xFE ∷ 0xFF ∷ 0xFF ∷ 0xFF ∷ 0x03
    ∷ 0xFC ∷ 0xFF ∷ 0xFF ∷ 0xFF ∷ 0xFF ∷ 0x03 ∷ 0x00 ∷ []

-- ---- the table

infix 2 ◌gives◌
infix 2 ◌is◌
pub data Row : Type 0 where
  ◌gives◌ : List (List ℕ) → List (List ℕ) → Row
  ◌is◌ : State → State → Row

unfoldable pub table : List Row
table =
    -- A to D: open with mask 0x28, disable Tcb, ask for the privileges with capacity 64, 18 and 19
    (answers (at 0 (open_with 0x28 ∷ adjust 7 0 ∷ query_words 0x40 ∷ query_words 18 ∷ query_words 19 ∷ []))
    gives handle 1 ∷ (0x05 ∷ 0x00 ∷ 0x80 ∷ 0x01 ∷ 0x80 ∷ 0x01 ∷ []) ∷ words ∷ (0x02 ∷ 0x09 ∷ 0x13 ∷ []) ∷ words ∷ [])
    -- E: a body of 2,048 bytes is served at its last one (no request is numbered 0)
    ∷ (answers (at 0 ((0x80 ∷ 0x10 ∷ []) ∷ replicate 2047 0 ∷ (0x00 ∷ []) ∷ [])) gives [] ∷ [] ∷ status 1 ∷ [])
    -- F: the next length breaks the stream, and what follows is eaten
    ∷ (answers (at 0 ((0x81 ∷ 0x10 ∷ []) ∷ open_with 0x28 ∷ [])) gives status 10 ∷ [] ∷ [])
    -- G: handle 1 from station 1
    ∷ (answers (at 0 (open_with 0x28 ∷ []) ++ at 1 (query_words 0x40 ∷ [])) gives handle 1 ∷ status 2 ∷ [])
    -- H: mask 0x1EF opens, 0x10 does not
    ∷ (answers (at 0 ((0x03 ∷ 0x01 ∷ 0xEF ∷ 0x03 ∷ []) ∷ open_with 0x10 ∷ [])) gives handle 1 ∷ status 5 ∷ [])
    -- I: privilege 36 passes, 37 does not
    ∷ (answers (at 0 (open_with 0x28 ∷ adjust 36 0 ∷ adjust 37 0 ∷ []))
    gives handle 1 ∷ (0x0D ∷ 0x00 ∷ 0x80 ∷ 0x80 ∷ 0x80 ∷ 0x80 ∷ 0x80 ∷ 0x02 ∷ 0x80 ∷ 0x80 ∷ 0x80 ∷ 0x80 ∷ 0x80 ∷ 0x02 ∷ []) ∷ status 5 ∷ [])
    -- J: the 33rd handle
    ∷ (answers (at 0 (replicate 33 (open_with 0x28))) gives handles 32 1 ++ (status 8 ∷ []))
    -- K: the number 80 00
    ∷ (answers (at 0 ((0x03 ∷ 0x01 ∷ 0x80 ∷ 0x00 ∷ []) ∷ [])) gives status 1 ∷ [])
    -- L: privilege 7 removed twice; the second time only the modified number of token 1 steps
    ∷ (answers (at 0 (open_with 0x28 ∷ adjust 7 4 ∷ adjust 7 4 ∷ []))
    gives handle 1 ∷ (0x05 ∷ 0x00 ∷ 0x80 ∷ 0x01 ∷ 0x80 ∷ 0x01 ∷ []) ∷ (0x03 ∷ 0x00 ∷ 0x00 ∷ 0x00 ∷ []) ∷ [])
    ∷ (after (at 0 (open_with 0x28 ∷ adjust 7 4 ∷ adjust 7 4 ∷ [])) start
    is change_token 1 next_modified (after (at 0 (open_with 0x28 ∷ adjust 7 4 ∷ [])) start))
    ∷ []

-- every row is an equation that holds
unfoldable pub Holds : List Row → Type 0
Holds [] = Unit {0}
Holds (◌gives◌ a b ∷ rows) = (a ≡ b) × Holds rows
Holds (◌is◌ σ τ ∷ rows) = (σ ≡ τ) × Holds rows
