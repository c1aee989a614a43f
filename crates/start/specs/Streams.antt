-- What dropping a station's stream gives, for every state that the parts hold. Assumes nothing.
use Rattle.std.specs.Prelude.{ℕ, ◌≡◌, List}
use Rattle.table.specs.Table.{flat}
use Rattle.rules.specs.Station.{cleared}
use Rattle.rules.specs.State.{State, change_station}
use Rattle.rules.specs.Memory.{pending_row}
use Rattle.control.specs.Control.{ControlIn}

-- the pending part holds the states' pending bytes
pub record PendingIn (σ : State) (ps : List ℕ) : Type 0 where
  pub rows : ps ≡ flat pending_row σ.stations

pub record StreamDropped (station : ℕ) (cs ps cs' ps' : List ℕ) : Type 0 where
  pub control : (σ : State) → ControlIn σ cs → ControlIn (change_station station cleared σ) cs'
  pub pending : (σ : State) → PendingIn σ ps → PendingIn (change_station station cleared σ) ps'
