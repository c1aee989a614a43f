-- What is written at the start. Assumes nothing.
use Rattle.std.specs.Prelude.{ℕ, ◌≡◌, List, replicate}
use Rattle.rules.specs.State.{start, handle_slots}
use Rattle.rules.specs.Memory.{encode}
use Rattle.handle.specs.Meaning.{none}
use Rattle.state.specs.Parts.{TokensIn}
use Rattle.valid.specs.Meaning.{memory_of}

pub record FirstTokens (ts ds : List ℕ) : Type 0 where
  pub tokens : TokensIn start ts ds

-- with 32 free handles beside it
pub record Begun (ts ds cs ps : List ℕ) : Type 0 where
  pub memory : memory_of ts ds (replicate handle_slots none) cs ps ≡ encode start
