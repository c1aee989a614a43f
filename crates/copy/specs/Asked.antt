-- What the SIDs given are asked for, where those of request 10 are all there. Assumes nothing.
use Rattle.std.specs.Prelude.{ℕ, ◌≤◌, ◌≡◌, Bool, true, List, length, drop}
use Rattle.rules.specs.Basic.{all}
use Rattle.rules.specs.Number.{got}
use Rattle.rules.specs.Sid.{Sid}
use Rattle.rules.specs.SidTable.{max_sids, is_number, fits_table}
use Rattle.rules.specs.State.{State}
use Rattle.rules.specs.Valid.{valid}
use Rattle.rules.specs.Request.{times, u32}
use Rattle.control.specs.Control.{ControlIn}
use Rattle.copy.specs.declared.asked.Asked.{Asked}
use Rattle.copy.specs.declared.restricting.Sids.{Sids}

-- in a table of so many SIDs
pub record NumbersJudged (given : List ℕ) (size : ℕ) (r : Bool) : Type 0 where
  pub judged : (sids : List Sid) → length sids ≡ size → size ≤ max_sids → r ≡ all (is_number sids) given

pub record NumbersAsked (list : Sids) (s : List ℕ) (at count : ℕ) (cs : List ℕ) (r : Asked) : Type 0 where
  pub same : r.list ≡ list
  pub known : (given later : List ℕ) → times count u32 (drop at s) ≡ got given later → (σ : State) → valid σ ≡ true → ControlIn σ cs → r.known ≡ all (is_number σ.sids) given
  pub fits : (σ : State) → valid σ ≡ true → r.fits ≡ fits_table σ.sids
