-- What the functions over the handles give, for every state that they hold. Assumes nothing.
use Rattle.std.specs.Prelude.{ℕ, ◌<◌, ◌≡◌, Bool, true, not, Option, None, Some, List, eqb, set}
use Rattle.rules.specs.Number.{max32}
use Rattle.rules.specs.Table.{is_live}
use Rattle.rules.specs.Valid.{valid}
use Rattle.rules.specs.State as state
use Rattle.rules.specs.State.{State, find_handle, can_add_handle, add_handle}
use Rattle.rules.specs.Memory.{next_handle}
use Rattle.handle.specs.Meaning.{handle_of}
use Rattle.handle.specs.declared.Handle.{Handle}
use Rattle.control.specs.Control.{ControlIn}
use Rattle.state.specs.Parts.{HandlesIn}
use Rattle.state.specs.Formed.{Formed}
use Rattle.state.specs.declared.handles.Change.{Change}

-- the handles after a change, or none
abbrev pub changed : List Handle → Option Change → List Handle
changed hs None = hs
changed hs (Some x) = set hs x.slot x.handle

pub record HandleGiven (station number : ℕ) (hs : List Handle) (r : Handle) : Type 0 where
  pub handle : (σ : State) → valid σ ≡ true → HandlesIn σ hs → handle_of r ≡ state.handle_of σ station number
  pub live : (σ : State) → valid σ ≡ true → HandlesIn σ hs → is_live (find_handle σ station number) ≡ not (eqb r.number 0)

pub record HandleRoom (hs : List Handle) (cs : List ℕ) (r : Bool) : Type 0 where
  pub room : (σ : State) → valid σ ≡ true → HandlesIn σ hs → ControlIn σ cs → r ≡ can_add_handle σ
  -- what add_handle asks
  pub next : r ≡ true → next_handle cs < max32

-- a handle is also added where its token has no reference yet: the state is formed, and not valid
pub record HandleAdded (station token mask : ℕ) (hs : List Handle) (cs cs' : List ℕ) (r : Change) : Type 0 where
  pub control : (σ : State) → ControlIn σ cs → ControlIn (add_handle station token mask σ) cs'
  pub handles : (σ : State) → Formed σ → HandlesIn σ hs → ControlIn σ cs → HandlesIn (add_handle station token mask σ) (changed hs (Some r))
  pub number : (σ : State) → ControlIn σ cs → r.handle.number ≡ σ.handles.next
