-- What code does in place of a search or a sweep: slots by their index (`found`, `placed` and `exchanged` of Table are `get_or` and `set`
-- at these), and freeing the one token that lost a reference. Assumes nothing.
use Rattle.std.specs.Prelude.{ℕ, zero, suc, Bool, List, [], ◌∷◌, if◌then◌else◌}
use Rattle.rules.specs.Basic.{member}
use Rattle.rules.specs.Table.{Slot, free, live, exchanged, with_slots}
use Rattle.rules.specs.State.{State, is_numbered, references, with_tokens}

-- the lowest free slot, or the length where there is none
unfoldable pub free_index : {A : Type 0} → List (Slot A) → ℕ
free_index [] = zero
free_index (free ∷ ps) = zero
free_index (live a ∷ ps) = suc (free_index ps)

-- the first live record that passes the test, or the length where there is none
unfoldable pub found_index : {A : Type 0} → (A → Bool) → List (Slot A) → ℕ
found_index f [] = zero
found_index f (free ∷ ps) = suc (found_index f ps)
found_index f (live a ∷ ps) = if f a then zero else suc (found_index f ps)

-- token n is freed if nothing refers to it
unfoldable pub freed_one : ℕ → State → State
freed_one n σ =
    if member n (references σ) then σ else with_tokens (with_slots (exchanged (is_numbered n) free σ.tokens.slots) σ.tokens) σ
