-- What the code's slices stand for. Assumes nothing.
use Rattle.std.specs.Prelude.{ℕ, ◌*◌, ◌≡◌, List, map, length}
use Rattle.handle.specs.declared.Handle.{Handle}
use Rattle.handle.specs.Meaning.{handle_of}
use Rattle.rules.specs.Token.{max_dacl}
use Rattle.rules.specs.State.{token_slots, station_count}
use Rattle.rules.specs.Memory.{Memory, token_words, control_words, pending_bytes}

abbrev pub memory_of : List ℕ → List ℕ → List Handle → List ℕ → List ℕ → Memory
memory_of ts ds hs cs ps = record { tokens = ts; dacls = ds; handles = map handle_of hs; control = cs; pending = ps }

-- the parts have the sizes that document 01 fixes
pub record Lent (ts ds cs ps : List ℕ) : Type 0 where
  pub tokens : length ts ≡ token_slots * token_words
  pub dacls : length ds ≡ token_slots * max_dacl
  pub control : length cs ≡ control_words
  pub pending : length ps ≡ station_count * pending_bytes
