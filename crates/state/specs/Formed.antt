-- What code that reads the parts needs of the state that they hold. It is true of a valid state, and between the changes of one request too,
-- where a token may have no reference yet or any more. Assumes nothing.
use Rattle.std.specs.Prelude.{◌≤◌, ◌≡◌, true, length}
use Rattle.rules.specs.Growth.{Mem}
use Rattle.rules.specs.Token.{Token}
use Rattle.rules.specs.Handle.{Handle}
use Rattle.rules.specs.Pair.{Pair}
use Rattle.rules.specs.Table.{lives}
use Rattle.rules.specs.Valid.{token_valid}
use Rattle.rules.specs.State.{State, token_slots, handle_slots}

pub record Formed (σ : State) : Type 0 where
  pub token_slots_long : length σ.tokens.slots ≡ token_slots
  pub handle_slots_long : length σ.handles.slots ≡ handle_slots
  -- number 0 stands for a free slot, and for a pair's free place
  pub tokens : (t : Token) → Mem t (lives σ.tokens.slots) → (token_valid t ≡ true) × (1 ≤ t.number)
  pub handles : (h : Handle) → Mem h (lives σ.handles.slots) → 1 ≤ h.number
  pub pairs : (p : Pair) → Mem p (lives σ.pairs) → 1 ≤ p.elevated
