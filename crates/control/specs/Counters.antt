-- What the functions over the next numbers give, for every state that the words hold. Assumes nothing.
use Rattle.std.specs.Prelude.{ℕ, ◌+◌, ◌≡◌, List, get_or, set}
use Rattle.rules.specs.State.{State}
use Rattle.rules.specs.Memory.{counter_section, counters, sections}
use Rattle.control.specs.Control.{ControlIn}

pub record NextGiven (counter : ℕ) (ws : List ℕ) (r : ℕ) : Type 0 where
  pub word : r ≡ get_or ws counter 0
  pub next : (σ : State) → ControlIn σ ws → r ≡ get_or (counters σ) counter 0

-- one number is given
abbrev pub stepped : ℕ → List ℕ → List ℕ
stepped counter ns = set ns counter (get_or ns counter 0 + 1)

-- τ is a state that has given one number more
pub record Stepped (counter : ℕ) (ws ws' : List ℕ) : Type 0 where
  pub word : ws' ≡ stepped counter ws
  pub control : (σ τ : State) → sections τ ≡ set (sections σ) counter_section (stepped counter (counters σ)) → ControlIn σ ws → ControlIn τ ws'
