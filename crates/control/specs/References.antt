-- What refers to a token beside handles, of every state whose pairs are read from the words. Assumes nothing.
use Rattle.std.specs.Prelude.{ℕ, ◌≡◌, Bool, List, ◌++◌, map}
use Rattle.rules.specs.Basic.{member, non_zero}
use Rattle.rules.specs.Table.{lives}
use Rattle.rules.specs.State.{State, station_token, client_token, elevated_token, filtered_token}
use Rattle.control.specs.Control.{ControlIn}
use Rattle.control.specs.Pairs.{pairs_of}

-- those of State.references that are not handles'
pub record Refer (token : ℕ) (ws : List ℕ) (r : Bool) : Type 0 where
  pub refer : (σ : State) → ControlIn σ ws → pairs_of ws ≡ σ.pairs
      → r ≡ member token (map station_token σ.stations ++ non_zero (map client_token σ.stations) ++ map elevated_token (lives σ.pairs) ++ map filtered_token (lives σ.pairs))
