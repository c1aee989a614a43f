-- What feed promises: it did what the rules' `Calls` say of it. Assumes nothing.
use Rattle.std.specs.Prelude.{ℕ, ◌≡◌, Option, None, Some, IfSome, Result, Ok, Err, List, length, set}
use Rattle.handle.specs.Meaning.{none}
use Rattle.rules.specs.Memory.{Memory}
use Rattle.rules.specs.Calls.{Done, feed_on, buffer}
use Rattle.handle.specs.Loaded.{loaded}
use Rattle.handle.specs.declared.Handle.{Handle}
use Rattle.valid.specs.Meaning.{memory_of}
use Rattle.state.specs.HandleFacts.{changed}
use Rattle.state.specs.declared.handles.Change.{Change}
use Rattle.start.specs.Refusal.{number_of}
use Rattle.start.specs.declared.refusal.CallRefusal.{CallRefusal}
use Rattle.calls.specs.declared.Fed.{Fed}
use Rattle.calls.specs.declared.Turn.{Turn}

-- what a feed did; `d` is what it had to do. It returns the refusal, the bytes used and the answer's length; the answer stands at the start of the buffer, and the
-- bytes after it stay
pub record Feeds (d : Done) (after : Memory) (out out' : List ℕ) (r : Fed) : Type 0 where
  pub refusal : r.refusal ≡ d.refusal
  pub used : r.used ≡ d.used
  pub answered : r.answered ≡ length d.answer
  pub memory : after ≡ d.after
  pub answer : out' ≡ buffer d.answer out

-- ---- the contract of the call, which demand 3's links (`WholeRun`) cite too: memory before, arguments, memory after, result

-- of a station's chunk; `out` is the answer buffer
abbrev pub FeedPromise : Memory → ℕ → List ℕ → List ℕ → Memory → List ℕ → Fed → Type 0
FeedPromise m s chunk out m' out' r = Feeds (feed_on m s chunk (length out)) m' out out' r

-- ---- the same with the handle list by value: `count` is the lent list's length, `items` are its first 32 handles

-- what the call returns of it: a refused chunk is not used, and has no answer
abbrev pub fed_as : Result Turn CallRefusal → Fed
fed_as (Ok t) = record { refusal = 0; used = t.used; answered = t.answered }
fed_as (Err e) = record { refusal = number_of e; used = 0; answered = 0 }

abbrev pub change_of : Result Turn CallRefusal → Option Change
change_of (Ok t) = t.change
change_of (Err e) = None

pub record FeedsWith (station : ℕ) (chunk : List ℕ) (count : ℕ) (items : List Handle) (ts ds cs ps out ts' ds' cs' ps' out' : List ℕ) (r : Result Turn CallRefusal) : Type 0 where
  pub fed : (hs : List Handle) → length hs ≡ count → loaded hs ≡ items
      → FeedPromise (memory_of ts ds hs cs ps) station chunk out (memory_of ts' ds' (changed hs (change_of r)) cs' ps') out' (fed_as r)
  -- a handle of number 0 frees its slot
  pub clears : (hs : List Handle) → length hs ≡ count → loaded hs ≡ items → IfSome (change_of r) (λ c. c.handle.number ≡ 0 → changed hs (Some c) ≡ set hs c.slot none)
