-- What request 7's effect gives, for every valid state that the parts hold. Assumes nothing.
use Rattle.std.specs.Prelude.{ℕ, ◌≡◌, true, List}
use Rattle.rules.specs.Privileges.{tcb}
use Rattle.rules.specs.Valid.{valid}
use Rattle.rules.specs.State.{State, used, change_token}
use Rattle.rules.specs.AdjustScope.{scoped_token}
use Rattle.control.specs.Control.{ControlIn}
use Rattle.state.specs.Parts.{TokensIn}

pub record ScopeApplied (s n v : ℕ) (ts cs ts' : List ℕ) : Type 0 where
  pub tokens : (σ : State) → valid σ ≡ true → {ds : List ℕ} → TokensIn σ ts ds → ControlIn σ cs → TokensIn (change_token n (scoped_token v) (used tcb s σ)) ts' ds
