-- What the session's calls give: memory is the lent parts with the handles that come by value. Assumes nothing.
use Rattle.std.specs.Prelude.{ℕ, ◌≤◌, ◌<◌, ◌≡◌, true, List, ◌++◌, length, take, drop, replicate}
use Rattle.rules.specs.Refusal.{no_station}
use Rattle.rules.specs.State.{handle_slots}
use Rattle.rules.specs.Frame.{max_answer}
use Rattle.rules.specs.Memory.{Memory, decode, valid}
use Rattle.rules.specs.Calls.{start_on}
use Rattle.handle.specs.Meaning.{none}
use Rattle.handle.specs.Words.{records_in}
use Rattle.valid.specs.Meaning.{memory_of}
use Rattle.calls.specs.Promise.{FeedPromise}
use Rattle.session.specs.Program.{Output, nothing, fed}
use Rattle.calls.specs.declared.Fed.{Fed}
use Rattle.session.specs.declared.turn.Memory as program

-- the memory that the program holds, as the calls know it
abbrev pub held : program.Memory → Memory
held m = memory_of m.tokens.now m.dacls.now (records_in m.handles.words) m.control.now m.pending.now

-- it holds the same references
abbrev pub SameMemory : program.Memory → program.Memory → Type 0
SameMemory m n =
    (n.tokens.ghost_name ≡ m.tokens.ghost_name)
    × (n.dacls.ghost_name ≡ m.dacls.ghost_name)
    × (n.control.ghost_name ≡ m.control.ghost_name)
    × (n.pending.ghost_name ≡ m.pending.ghost_name)

-- a start over no handles
pub record Starts (m n : program.Memory) : Type 0 where
  pub handles : records_in n.handles.words ≡ replicate handle_slots none
  pub memory : held n ≡ (start_on (memory_of m.tokens.now m.dacls.now (records_in n.handles.words) m.control.now m.pending.now)).after

-- the answer that was written, before what the rest of a chunk brings
abbrev pub answering : List ℕ → Output → Output
answering a o = record { bytes = a ++ o.bytes; after = o.after }

-- a feed of a chunk, and what it means for the program on valid memory
pub record Turns (s : ℕ) (chunk : List ℕ) (m m' : Memory) (out out' : List ℕ) (r : Fed) : Type 0 where
  pub feeds : FeedPromise m s chunk out m' out' r
  pub inside : r.used ≤ length chunk
  pub fits : r.answered ≤ length out'
  -- 11 is the only refusal
  pub refusal : valid m ≡ true → max_answer ≤ length out → (r.refusal ≡ 0 → ⊥) → r.refusal ≡ no_station
  pub forward : r.refusal ≡ 0 → 0 < length chunk → 0 < r.used
  pub stays : valid m ≡ true → valid m' ≡ true
  pub taken : valid m ≡ true → max_answer ≤ length out → 0 < length chunk → r.refusal ≡ 0
      → fed (decode m) s chunk ≡ answering (take r.answered out') (fed (decode m') s (drop r.used chunk))
  pub skipped : valid m ≡ true → max_answer ≤ length out → 0 < length chunk → (r.refusal ≡ 0 → ⊥) → fed (decode m) s chunk ≡ nothing (decode m')
