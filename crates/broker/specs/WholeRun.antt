-- Demand 3 of the calls themselves: calls that meet their contracts (`Promise`), one after the other, each with the memory as the last one
-- left it, from the memory of any valid state and so from what start leaves. Assumes nothing.
use Rattle.std.specs.Prelude.{ℕ, ◌≡◌, true, List, [], ◌∷◌, ◌++◌, map, length, take, drop, eqb, if◌then◌else◌}
use Rattle.rules.specs.Basic.{all}
use Rattle.rules.specs.Refusal.{invalid_memory}
use Rattle.rules.specs.State.{State, start}
use Rattle.rules.specs.Memory.{Memory, sized, encode}
use Rattle.rules.specs.Run as Run
use Rattle.rules.specs.Run.{Call, feeds, reconnects, of_bytes, noted, Event, byte, reconnected}
use Rattle.rules.specs.Growth.{Mem}
use Rattle.rules.specs.Calls.{Done, written}
use Rattle.rules.specs.WholeList.{returns_of}
use Rattle.rules.specs.Throughout.{Throughout}
use Rattle.start.specs.Promise.{StartPromise, ReconnectPromise}
use Rattle.calls.specs.declared.Fed.{Fed}
use Rattle.calls.specs.Promise.{FeedPromise}

-- ---- one call on the memory m, with what it returned and left: the contract of obriska_feed or obriska_reconnect

pub record FeedCall (m : Memory) (s : ℕ) (chunk : List ℕ) (buffer_length : ℕ) (r : Done) : Type 0 where
  -- the answer buffer before and after
  pub out : List ℕ
  pub out' : List ℕ
  pub fed : Fed
  pub size : length out ≡ buffer_length
  pub promise : FeedPromise m s chunk out r.after out' fed
  pub refusal : r.refusal ≡ fed.refusal
  pub used : r.used ≡ fed.used
  pub answer : r.answer ≡ take fed.answered out'

pub record ReconnectCall (m : Memory) (s : ℕ) (r : Done) : Type 0 where
  pub promise : ReconnectPromise m s r.after r.refusal
  pub used : r.used ≡ 0
  pub answer : r.answer ≡ []

pub data Link : Memory → Call → Done → Type 0 where
  feed : {m : Memory} {s : ℕ} {chunk : List ℕ} {buffer_length : ℕ} {r : Done} → FeedCall m s chunk buffer_length r → Link m (feeds s chunk buffer_length) r
  reconnect : {m : Memory} {s : ℕ} {r : Done} → ReconnectCall m s r → Link m (reconnects s) r

-- ---- calls one after the other, from the memory m to m'

pub data Chain : Memory → List Call → Memory → List Done → Type 0 where
  none : {m : Memory} → Chain m [] m []
  link : {m m' : Memory} {c : Call} {cs : List Call} {r : Done} {rs : List Done} → Link m c r → Chain r.after cs m' rs → Chain m (c ∷ cs) m' (r ∷ rs)

-- the bytes after a feed's answer are those that were there
unfoldable pub RestStays : {m : Memory} {c : Call} {r : Done} → Link m c r → Type 0
RestStays (feed {r = r} f) = drop (length r.answer) f.out' ≡ drop (length r.answer) f.out
RestStays (reconnect f) = Unit {0}

unfoldable pub AllStay : {m m' : Memory} {cs : List Call} {rs : List Done} → Chain m cs m' rs → Type 0
AllStay none = Unit {0}
AllStay (link l x) = RestStays l × AllStay x

-- the answers that were returned, in order; a call without one adds none
unfoldable pub answers_in : List Done → List (List ℕ)
answers_in [] = []
answers_in (r ∷ rs) = noted r.answer (answers_in rs)

-- what happened, as the calls returned it: the used bytes, and the reconnects that were not refused
unfoldable pub happened : Call → Done → List Event
happened (feeds s chunk buffer_length) r = map (byte s) (take r.used chunk)
happened (reconnects s) r = if eqb r.refusal 0 then reconnected s ∷ [] else []

unfoldable pub events_in : List Call → List Done → List Event
events_in [] rs = []
events_in (c ∷ cs) [] = []
events_in (c ∷ cs) (r ∷ rs) = happened c r ++ events_in cs rs

-- ---- the claim

-- two runs with the same answers and the same end
pub record SameRun (m' n' : Memory) (rs qs : List Done) : Type 0 where
  pub answers : answers_in rs ≡ answers_in qs
  pub memory : m' ≡ n'

pub record WholeRun (σ : State) {m m' : Memory} {cs : List Call} {rs : List Done} (x : Chain m cs m' rs) : Type 0 where
  -- the calls began with what stands for σ
  pub begins : m ≡ encode σ
  -- 'after the list the memory holds what the plain desk holds'
  pub memory : m' ≡ encode (Run.after cs σ)
  -- 'each call has returned and answered what the plain desk does', and the memory after it holds what the plain desk then holds
  pub returns : rs ≡ map written (returns_of cs σ)
  -- 'bytes after the answer stay'
  pub rest : AllStay x
  -- '13 never comes'
  pub never13 : (r : Done) → Mem r rs → r.refusal ≡ invalid_memory → ⊥
  -- 'two lists alike in the order of reconnects and used bytes, with their stations, give the same answers and the same memory'
  pub alike : {n n' : Memory} {ds : List Call} {qs : List Done} → n ≡ encode σ → all of_bytes ds ≡ true → Chain n ds n' qs → events_in ds qs ≡ events_in cs rs
      → SameRun n' m' qs rs
  -- the order of serving, cutting, growth, and that answers fit
  pub throughout : Throughout σ cs

-- the contracts leave each list a run: the claim is of something
unfoldable pub CanRun : State → List Call → Type 0
CanRun σ cs = Chain (encode σ) cs (encode (Run.after cs σ)) (map written (returns_of cs σ))

-- ---- 'from the desk's start': a start on the memory m₀ that returned 0 (the contract of obriska_start), then calls

pub record FromStart (m₀ : Memory) (cs : List Call) (m' : Memory) (rs : List Done) : Type 0 where
  pub begun : Memory
  pub started : StartPromise m₀ begun 0
  pub calls : Chain begun cs m' rs

-- the claim of every such run: it is one from the state `start`
unfoldable pub WholeStart : {m₀ m' : Memory} {cs : List Call} {rs : List Done} → FromStart m₀ cs m' rs → Type 0
WholeStart x = WholeRun start x.calls

-- and each list has one, from any memory of the right sizes
unfoldable pub CanStart : Memory → List Call → Type 0
CanStart m₀ cs = sized m₀ ≡ true → FromStart m₀ cs (encode (Run.after cs start)) (map written (returns_of cs start))
