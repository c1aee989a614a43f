-- Demand 3, over lent memory: every list of feeds and reconnects, refused ones included, from the memory of any valid state. Assumes nothing.
use Rattle.std.specs.Prelude.{◌≡◌, List, [], ◌∷◌, map, true}
use Rattle.rules.specs.Refusal.{invalid_memory}
use Rattle.rules.specs.State.{State, start}
use Rattle.rules.specs.Token.{Token, start_token}
use Rattle.rules.specs.Memory.{Memory, sized, encode}
use Rattle.rules.specs.Model.{Result}
use Rattle.rules.specs.Run as Run
use Rattle.rules.specs.Run.{Call, feeds, reconnects, returned, of_bytes, events}
use Rattle.rules.specs.Basic.{all}
use Rattle.rules.specs.Growth.{Mem, Live}
use Rattle.rules.specs.Calls.{Done, written, start_on, feed_on, reconnect_on}
use Rattle.rules.specs.Throughout.{Throughout}

-- ---- the calls over memory: each gets the memory as the last one left it

unfoldable pub done_by : Memory → Call → Done
done_by m (feeds s chunk buffer_length) = feed_on m s chunk buffer_length
done_by m (reconnects s) = reconnect_on m s

unfoldable pub memory_after : List Call → Memory → Memory
memory_after [] m = m
memory_after (c ∷ cs) m = memory_after cs (done_by m c).after

unfoldable pub returns_on : List Call → Memory → List Done
returns_on [] m = []
returns_on (c ∷ cs) m = let d = done_by m c in d ∷ returns_on cs d.after

-- ---- the calls of the model

unfoldable pub returns_of : List Call → State → List Result
returns_of [] σ = []
returns_of (c ∷ cs) σ = let r = returned σ c in r ∷ returns_of cs r.after

-- cs is any list, so this holds after every call of a list: each prefix is a list
pub record WholeList (σ : State) (cs : List Call) : Type 0 where
  -- 'after the list the memory holds what the plain desk holds'
  pub memory : memory_after cs (encode σ) ≡ encode (Run.after cs σ)
  -- 'each call has returned and answered what the plain desk does', and the memory after it holds what the plain desk then holds
  pub returns : returns_on cs (encode σ) ≡ map written (returns_of cs σ)
  -- '13 never comes'
  pub never13 : (r : Done) → Mem r (returns_on cs (encode σ)) → r.refusal ≡ invalid_memory → ⊥
  -- 'two lists alike in the order of reconnects and used bytes, with their stations, give the same memory'; the same answers: `alike` below
  pub same_memory : (ds : List Call) → all of_bytes ds ≡ true → events ds σ ≡ events cs σ → memory_after ds (encode σ) ≡ memory_after cs (encode σ)
  -- the order of serving, cutting, growth, and that answers fit
  pub throughout : Throughout σ cs

-- 'from the desk's start': on any memory of the right size start leaves the memory of the state `start`, which is valid
pub record AfterStart (cs : List Call) : Type 0 where
  pub begun : (m : Memory) → sized m ≡ true → (start_on m).after ≡ encode start
  pub whole : WholeList start cs
  -- the start's only token: the root of every token is 0, 1 or the number of a created one (`Throughout.roots`)
  pub first : (t : Token) → Live t start → t ≡ start_token
