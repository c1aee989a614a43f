-- The program as a list of calls: what demand 3 says of every list of calls it says of the program. Assumes nothing.
use Rattle.std.specs.Prelude.{ℕ, zero, suc, List, [], ◌∷◌, ◌++◌, length, leb, if◌then◌else◌}
use Rattle.rules.specs.State.{State, station_count}
use Rattle.rules.specs.Frame.{max_answer}
use Rattle.rules.specs.Run.{Call, feeds, after, until_used}
use Rattle.session.specs.Program.{Next, chunk, more, stop, next}

-- the feeds of a chunk: one that is refused, or as many as use it up
unfoldable pub calls_of : State → ℕ → List ℕ → List Call
calls_of σ s bytes = if leb station_count s then feeds s bytes max_answer ∷ [] else until_used (length bytes) σ s bytes max_answer

unfoldable pub on_next : State → (List ℕ → State → List Call) → Next → List Call
on_next σ rest (chunk s bytes later) = let cs = calls_of σ s bytes in cs ++ rest later (after cs σ)
on_next σ rest more = []
on_next σ rest stop = []

-- the feeds of the input, at most n chunks of it
unfoldable pub calls : ℕ → List ℕ → State → List Call
calls zero input σ = []
calls (suc n) input σ = on_next σ (calls n) (next input)
