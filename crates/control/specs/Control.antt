-- The control words that hold a state: its sections, each of its size. Assumes nothing.
use Rattle.std.specs.Prelude.{ℕ, List}
use Rattle.table.specs.Sections.{Sectioned}
use Rattle.rules.specs.State.{State}
use Rattle.rules.specs.Memory.{control_sizes, sections}

pub record ControlIn (σ : State) (ws : List ℕ) : Type 0 where
  pub words : Sectioned control_sizes (sections σ) ws
