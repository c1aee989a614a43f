-- What start and reconnect promise: each did what the rules' `Calls` say of it. Assumes nothing.
use Rattle.std.specs.Prelude.{ℕ, ◌≡◌, Result, Ok, Err, List, ◌++◌, length, drop, replicate}
use Rattle.rules.specs.State.{handle_slots}
use Rattle.rules.specs.Memory.{Memory}
use Rattle.rules.specs.Calls.{Done, start_on, reconnect_on}
use Rattle.handle.specs.Meaning.{none}
use Rattle.handle.specs.Loaded.{loaded}
use Rattle.handle.specs.declared.Handle.{Handle}
use Rattle.valid.specs.Meaning.{memory_of}
use Rattle.start.specs.Refusal.{told}
use Rattle.start.specs.declared.refusal.CallRefusal.{CallRefusal}

-- what a call did; `d` is what it had to do. Both return the refusal
pub record Does (d : Done) (after : Memory) (r : ℕ) : Type 0 where
  pub refusal : r ≡ d.refusal
  pub memory : after ≡ d.after

-- ---- the contract of each call, which demand 3's links (`WholeRun`) cite too: memory before, arguments, memory after, result

abbrev pub StartPromise : Memory → Memory → ℕ → Type 0
StartPromise m m' r = Does (start_on m) m' r

abbrev pub ReconnectPromise : Memory → ℕ → Memory → ℕ → Type 0
ReconnectPromise m s m' r = Does (reconnect_on m s) m' r

-- ---- the same with the handle list by value: `count` is the lent list's length, `items` are its first 32 handles

-- where start is not refused, all slots become free
abbrev pub freed : Result Unit CallRefusal → List Handle → List Handle
freed (Ok u) hs = replicate handle_slots none ++ drop handle_slots hs
freed (Err e) hs = hs

pub record StartsWith (count : ℕ) (ts ds cs ps ts' ds' cs' ps' : List ℕ) (r : Result Unit CallRefusal) : Type 0 where
  pub started : (hs : List Handle) → length hs ≡ count
      → StartPromise (memory_of ts ds hs cs ps) (memory_of ts' ds' (freed r hs) cs' ps') (told r)

pub record ReconnectsWith (station count : ℕ) (items : List Handle) (ts ds cs ps cs' ps' : List ℕ) (r : Result Unit CallRefusal) : Type 0 where
  pub reconnected : (hs : List Handle) → length hs ≡ count → loaded hs ≡ items
      → ReconnectPromise (memory_of ts ds hs cs ps) station (memory_of ts ds hs cs' ps') (told r)
