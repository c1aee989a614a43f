-- The same input as it comes, in blocks: another one is read only where the bytes held so far don't tell. Assumes nothing.
use Rattle.std.specs.Prelude.{ℕ, zero, suc, List, [], ◌∷◌, ◌++◌}
use Rattle.rules.specs.State.{State, start}
use Rattle.session.specs.Program.{Next, chunk, more, stop, budget, next, on_next}

-- what is said of bytes, with later ones after them
unfoldable pub joined : List ℕ → Next → Next
joined later (chunk s bytes rest) = chunk s bytes (rest ++ later)
joined later more = more
joined later stop = stop

unfoldable pub concat : List (List ℕ) → List ℕ
concat [] = []
concat (block ∷ blocks) = block ++ concat blocks

-- one chunk from the bytes held and as many blocks as it takes; `rest` goes on with the bytes and the blocks that are left
unfoldable pub reading : (List ℕ → List (List ℕ) → State → List ℕ) → List ℕ → List (List ℕ) → State → List ℕ
reading rest held [] σ = on_next σ (λ later. rest later []) [] (next held)
reading rest held (block ∷ blocks) σ = on_next σ (λ later. rest later (block ∷ blocks)) (reading rest (held ++ block) blocks σ) (next held)

unfoldable pub run_blocks : ℕ → List ℕ → List (List ℕ) → State → List ℕ
run_blocks zero held blocks σ = []
run_blocks (suc n) held blocks σ = reading (run_blocks n) held blocks σ

unfoldable pub written_in_blocks : List (List ℕ) → List ℕ
written_in_blocks blocks = run_blocks budget [] blocks start
