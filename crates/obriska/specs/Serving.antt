-- What the program's functions do between reads and writes; which bytes these move no contract can say. Assumes nothing.
use Rattle.std.specs.Prelude.{ℕ, ◌+◌, ◌-◌, ◌≤◌, ◌<◌, ◌≡◌, Bool, true, false, Option, Some, None, IfSome, is_none, Result, IfOk, List, length, take, drop}
use Rattle.std.specs.declared.ops.ControlFlow.{ControlFlow}
use Rattle.std.specs.declared.ops.ControlFlow.TheVariants.{Continue, Break}
use Rattle.rules.specs.Frame.{max_answer}
use Rattle.rules.specs.Memory.{Memory, decode, valid}
use Rattle.session.specs.Program.{Next, chunk, more, stop, budget, next, fed}
use Rattle.obriska.specs.declared.Span.{Span}
use Rattle.obriska.specs.declared.Advanced.{Advanced}

-- the size of the input's buffer
abbrev pub buffer_bytes : ℕ
buffer_bytes = 65536

-- what the program starts with and keeps: the buffers have their sizes and memory is valid, so that 11 is the only refusal
pub record Ready (buffer answer : List ℕ) (m : Memory) : Type 0 where
  pub input : length buffer ≡ buffer_bytes
  pub output : max_answer ≤ length answer
  pub memory : valid m ≡ true

-- memory stays valid, and what is left of a chunk leads to the state that the whole of it leads to
pub record Onward (s : ℕ) (bytes left : List ℕ) (m m' : Memory) (buffer_length : ℕ) : Type 0 where
  pub stays : valid m ≡ true → valid m' ≡ true
  pub same : valid m ≡ true → max_answer ≤ buffer_length → (fed (decode m') s left).after ≡ (fed (decode m) s bytes).after

-- n bytes of a chunk are used
pub record Used (s : ℕ) (bytes : List ℕ) (m m' : Memory) (buffer_length n : ℕ) : Type 0 where
  pub inside : n ≤ length bytes
  pub some : 0 < length bytes → 0 < n
  pub onward : 0 < length bytes → Onward s bytes (drop n bytes) m m' buffer_length

-- one feed of a chunk: memory stays valid; where the answer was written r bytes are used
pub record Steps (s : ℕ) (bytes : List ℕ) (m m' : Memory) (buffer_length : ℕ) {E : Type 0} (r : Result ℕ E) : Type 0 where
  pub stays : valid m ≡ true → valid m' ≡ true
  pub used : IfOk r (Used s bytes m m' buffer_length)

-- a whole chunk
pub record Serves (s : ℕ) (bytes : List ℕ) (m m' : Memory) (buffer_length : ℕ) (written : Bool) : Type 0 where
  pub stays : valid m ≡ true → valid m' ≡ true
  pub after : valid m ≡ true → max_answer ≤ buffer_length → written ≡ true → decode m' ≡ (fed (decode m) s bytes).after

-- the bytes of the input that are held and not used yet
abbrev pub held : Span → List ℕ → List ℕ
held p buffer = drop p.from (take p.end buffer)

-- they lie within the buffer
abbrev pub Within : Span → List ℕ → Type 0
Within p buffer = (p.from ≤ p.end) × (p.end ≤ length buffer)

-- bytes are held, and there is room for more: a read into no room would look like the end of the input
pub record Room (p : Span) (buffer : List ℕ) : Type 0 where
  pub order : p.from ≤ p.end
  pub inside : p.end ≤ length buffer
  pub room : p.end < p.from + length buffer

-- the bytes held now stand at the front, with what was read after them; none where nothing was read
pub record Refilled (p : Span) (before after : List ℕ) (r : Option Span) : Type 0 where
  pub front : IfSome r (λ q. q.from ≡ 0)
  pub kept : IfSome r (λ q. take (p.end - p.from) (held q after) ≡ held p before)
  pub more : IfSome r (λ q. p.end - p.from < q.end)
  pub inside : IfSome r (λ q. q.end ≤ length after)

-- whether a turn goes on, and what it leaves
abbrev pub going : ControlFlow Advanced Advanced → Bool
going (Continue a) = true
going (Break a) = false

abbrev pub left : ControlFlow Advanced Advanced → Advanced
left (Continue a) = a
left (Break a) = a

-- what is done at what the bytes held come to
abbrev pub Follows : Next → List ℕ → List ℕ → Memory → Memory → ℕ → Bool → ℕ → Type 0
Follows (chunk s bytes later) h h' m m' buffer_length goes chunks = (chunks ≡ 1) × (h' ≡ later) × Serves s bytes m m' buffer_length goes
Follows more h h' m m' buffer_length goes chunks = (chunks ≡ 0) × (m' ≡ m) × (goes ≡ true → (length h < length h') × (take (length h) h' ≡ h))
Follows stop h h' m m' buffer_length goes chunks = (chunks ≡ 0) × (goes ≡ false) × (m' ≡ m)

pub record Advances (p : Span) (before after : List ℕ) (m m' : Memory) (buffer_length : ℕ) (r : ControlFlow Advanced Advanced) : Type 0 where
  pub follows : Follows (next (held p before)) (held p before) (held (left r).span after) m m' buffer_length (going r) (left r).chunks
  pub within : Within (left r).span after
  -- what makes the program end: a chunk was taken, or more bytes are held
  pub count : (left r).chunks ≤ 1
  pub more : going r ≡ true → (left r).chunks ≡ 0 → p.end - p.from < (left r).span.end - (left r).span.from
  pub stays : valid m ≡ true → valid m' ≡ true

-- no bytes are held
abbrev pub empty : Span
empty = record { from = 0; end = 0 }

-- turns one after the other, from nothing held, each on the bytes and the memory that the one before it left, until one does not go on:
-- how many chunks they took, whether the last goes on, and what it left
pub data Runs (b₀ : List ℕ) (m₀ : Memory) : ℕ → Bool → List ℕ → Span → Memory → Type 0 where
  none : Runs b₀ m₀ 0 true b₀ empty m₀
  turn : {n buffer_length : ℕ} {p : Span} {b b' : List ℕ} {m m' : Memory} {r : ControlFlow Advanced Advanced} → Runs b₀ m₀ n true b p m → max_answer ≤ buffer_length → Advances p b b' m m' buffer_length r
      → Runs b₀ m₀ (n + (left r).chunks) (going r) b' (left r).span m'

-- how many chunks a run took: the budget where it did not stop before
abbrev pub taken : Option ℕ → ℕ
taken (Some n) = n
taken None = budget

-- the whole run: turns until one stops it or the budget is used up; no more chunks than the budget
pub record Ends (b₀ b : List ℕ) (m₀ m : Memory) (r : Option ℕ) : Type 0 where
  pub span : Span
  pub runs : Runs b₀ m₀ (taken r) (is_none r) b span m
  pub most : taken r ≤ budget
  pub memory : valid m ≡ true
