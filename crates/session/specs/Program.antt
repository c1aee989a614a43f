-- The program on standard input (document 01: 'a thin program'): what it writes for all that it reads. Assumes nothing.
use Rattle.std.specs.Prelude.{ℕ, zero, suc, Bool, ◌&&◌, List, [], ◌∷◌, ◌++◌, length, take, drop, eqb, leb, ltb, if◌then◌else◌}
use Rattle.rules.specs.Basic.{all}
use Rattle.rules.specs.Number.{Read, got, bad, max32, read_number}
use Rattle.rules.specs.State.{State, start}
use Rattle.rules.specs.Frame.{max_answer}
use Rattle.rules.specs.Model.{Result, feed}

-- the longest chunk (document 01: 'piece')
abbrev pub max_chunk : ℕ
max_chunk = 4096

-- the most chunks
abbrev pub budget : ℕ
budget = 4294967295

-- the most bytes of a number of a u32 field
abbrev pub number_bytes : ℕ
number_bytes = 5

-- ---- the next chunk of the input

-- a station, its chunk and the input after it; or the input so far does not tell; or the program stops, whatever follows
pub data Next : Type 0 where
  chunk : ℕ → List ℕ → List ℕ → Next
  more : Next
  stop : Next

-- each byte says that the number goes on, and it still may
unfoldable pub is_cut : List ℕ → Bool
is_cut bytes = ltb (length bytes) number_bytes && all (leb 128) bytes

-- the bytes don't begin with a number
unfoldable pub no_number : List ℕ → Next
no_number bytes = if is_cut bytes then more else stop

unfoldable pub on_number : List ℕ → (ℕ → List ℕ → Next) → Read ℕ → Next
on_number bytes go bad = no_number bytes
on_number bytes go (got n rest) = go n rest

-- the number that the bytes begin with, then what follows from it
unfoldable pub with_number : List ℕ → (ℕ → List ℕ → Next) → Next
with_number bytes go = on_number bytes go (read_number max32 bytes)

unfoldable pub of_length : ℕ → ℕ → List ℕ → Next
of_length s n bytes =
    if ltb max_chunk n then stop else
    if ltb (length bytes) n then more else
    chunk s (take n bytes) (drop n bytes)

-- a station, a length, and so many bytes
unfoldable pub next : List ℕ → Next
next input = with_number input (λ s bytes. with_number bytes (of_length s))

-- ---- what a chunk brings

-- the answers, one after the other, and the state after them
pub record Output : Type 0 where
  pub bytes : List ℕ
  pub after : State

unfoldable pub nothing : State → Output
nothing σ = record { bytes = []; after = σ }

-- after one feed: a refused chunk is skipped, else the rest of it follows
unfoldable pub on_fed : (Result → Output) → Result → Output
on_fed rest r = if eqb r.refusal 0 then record { bytes = r.answer ++ (rest r).bytes; after = (rest r).after } else nothing r.after

-- a chunk of a station, fed until it is used up, in at most k feeds
unfoldable pub fed_in : ℕ → State → ℕ → List ℕ → Output
fed_in zero σ s bytes = nothing σ
fed_in (suc k) σ s [] = nothing σ
fed_in (suc k) σ s (b ∷ bytes) = on_fed (λ r. fed_in k r.after s (drop r.used (b ∷ bytes))) (feed σ s (b ∷ bytes) max_answer)

-- each feed uses a byte at least
unfoldable pub fed : State → ℕ → List ℕ → Output
fed σ s bytes = fed_in (length bytes) σ s bytes

-- ---- the whole

-- `waiting` is what is written where the input so far does not tell
unfoldable pub on_next : State → (List ℕ → State → List ℕ) → List ℕ → Next → List ℕ
on_next σ rest waiting (chunk s bytes later) = let o = fed σ s bytes in o.bytes ++ rest later o.after
on_next σ rest waiting more = waiting
on_next σ rest waiting stop = []

-- what is written for the whole input, at most n chunks of it, from a state; a chunk that is cut short is not fed
unfoldable pub run : ℕ → List ℕ → State → List ℕ
run zero input σ = []
run (suc n) input σ = on_next σ (run n) [] (next input)

unfoldable pub written : List ℕ → List ℕ
written input = run budget input start
