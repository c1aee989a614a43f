-- Demand 3 of calls that meet their contracts. Assumes nothing.
use Prim.Native.Nat.{ℕ}
use native.Mathlib.Omega.{arith}
use mathlib.Core.Path.{◌≡◌, refl, sym, ap, ap₂, ◌∙◌, subst}
use mathlib.Core.Bool.{true}
use mathlib.Core.Logic.{⊎_elim}
use mathlib.Core.List.{List, [], ◌∷◌, ◌++◌, map}
use lib.ListN.{length, take, drop, replicate, length-replicate}
use lib.Seq.{take-append_seam, drop-append_seam}
use lib.Dec.{leb}
use Rattle.rules.specs.Basic.{all}
use Rattle.rules.specs.State.{State, start, station_count}
use Rattle.rules.specs.Valid as Valid
use Rattle.rules.specs.Memory.{Memory, sized, valid, encode}
use Rattle.rules.specs.Model as Model
use Rattle.rules.specs.Model.{Result, refused}
use Rattle.rules.specs.Run.{Call, feeds, reconnects, returned, after, of_bytes, noted, answered, events_of, events}
use Rattle.rules.specs.Growth.{Mem}
use Rattle.rules.specs.Calls.{Done, refused_on, written, start_on, feed_on, reconnect_on, buffer}
use Rattle.rules.specs.WholeList.{done_by, memory_after, returns_on, returns_of}
use Rattle.rules.proofs.Logic.{either}
use Rattle.rules.proofs.Tables.{on_if}
use Rattle.rules.proofs.Always.{start_valid}
use Rattle.rules.proofs.WholeList.{whole_list}
use Rattle.start.specs.Promise.{StartPromise}
use Rattle.broker.specs.WholeRun.{FeedCall, ReconnectCall, Link, feed, reconnect, Chain, none, link, RestStays, AllStay, answers_in, happened, events_in, WholeRun, CanRun, FromStart, WholeStart, CanStart}

-- ---- one call: what it returned and left is what `Calls` says

same_done : {d e : Done} → d.refusal ≡ e.refusal → d.used ≡ e.used → d.answer ≡ e.answer → d.after ≡ e.after → d ≡ e
same_done n u a m = λ i. record { refusal = n i; used = u i; answer = a i; after = m i }

module _ {m : Memory} {s : ℕ} {chunk : List ℕ} {buffer_length : ℕ} {r : Done} (f : FeedCall m s chunk buffer_length r) where
  said : r.answer ≡ (feed_on m s chunk (length f.out)).answer
  unfolding buffer
  said = let p = f.promise in f.answer ∙ ap₂ take p.answered p.answer ∙ take-append_seam (feed_on m s chunk (length f.out)).answer _

  fed_as : r ≡ feed_on m s chunk buffer_length
  fed_as =
      let p = f.promise in
      same_done (f.refusal ∙ p.refusal) (f.used ∙ p.used) said p.memory ∙ ap (feed_on m s chunk) f.size

  fed_rest : drop (length r.answer) f.out' ≡ drop (length r.answer) f.out
  unfolding buffer
  fed_rest = let a = (feed_on m s chunk (length f.out)).answer in rw said (ap (drop (length a)) f.promise.answer ∙ drop-append_seam a _)

-- a reconnect uses and answers nothing
Quiet : Done → Type 0
Quiet d = (d.used ≡ 0) × (d.answer ≡ [])

reconnect_quiet : (m : Memory) (s : ℕ) → Quiet (reconnect_on m s)
unfolding Quiet reconnect_on refused_on written refused Model.reconnect
reconnect_quiet m s =
    on_if Quiet (leb station_count s) _ _ (λ t. (refl, refl))
    (λ t. on_if Quiet (valid m) _ _ (λ v. on_if (λ (x : Result). Quiet (written x)) (leb station_count s) _ _ (λ u. (refl, refl)) (λ u. (refl, refl))) (λ v. (refl, refl)))

reconnected_as : {m : Memory} {s : ℕ} {r : Done} → ReconnectCall m s r → r ≡ reconnect_on m s
unfolding Quiet
reconnected_as {m} {s} f =
    let q = reconnect_quiet m s in same_done f.promise.refusal (f.used ∙ sym q.0) (f.answer ∙ sym q.1) f.promise.memory

link_as : {m : Memory} {c : Call} {r : Done} → Link m c r → r ≡ done_by m c
unfolding done_by
link_as (feed f) = fed_as f
link_as (reconnect f) = reconnected_as f

link_rest : {m : Memory} {c : Call} {r : Done} (l : Link m c r) → RestStays l
unfolding RestStays
link_rest (feed f) = fed_rest f
link_rest (reconnect f) = tt

-- the contracts leave a call something to do
can_link_lem : (m : Memory) (c : Call) → Link m c (done_by m c)
unfolding done_by buffer Quiet
can_link_lem m (feeds s chunk buffer_length) =
    let out : List ℕ = replicate buffer_length 0 in
    let d = feed_on m s chunk (length out) in
    let made : FeedCall m s chunk buffer_length d = record {
      out = out;
      out' = buffer d.answer out;
      fed = record { refusal = d.refusal; used = d.used; answered = length d.answer };
      size = length-replicate buffer_length 0;
      promise = record { refusal = refl; used = refl; answered = refl; memory = refl; answer = refl };
      refusal = refl;
      used = refl;
      answer = sym (take-append_seam d.answer _);
    } in
    feed (subst (λ (n : ℕ). FeedCall m s chunk buffer_length (feed_on m s chunk n)) (length-replicate buffer_length 0) made)
can_link_lem m (reconnects s) = let q = reconnect_quiet m s in reconnect (record { promise = record { refusal = refl; memory = refl }; used = q.0; answer = q.1 })

-- ---- a chain, from any memory

chain_memory : {m m' : Memory} {cs : List Call} {rs : List Done} → Chain m cs m' rs → m' ≡ memory_after cs m
unfolding memory_after
chain_memory none = refl
chain_memory (link {cs = cs} l x) = chain_memory x ∙ ap (λ (d : Done). memory_after cs d.after) (link_as l)

chain_returns : {m m' : Memory} {cs : List Call} {rs : List Done} → Chain m cs m' rs → rs ≡ returns_on cs m
unfolding returns_on
chain_returns none = refl
chain_returns (link {cs = cs} {r = r} l x) = ap (λ (ds : List Done). r ∷ ds) (chain_returns x) ∙ ap (λ (d : Done). d ∷ returns_on cs d.after) (link_as l)

chain_rest : {m m' : Memory} {cs : List Call} {rs : List Done} (x : Chain m cs m' rs) → AllStay x
unfolding AllStay
chain_rest none = tt
chain_rest (link l x) = (link_rest l, chain_rest x)

can_chain : (m : Memory) (cs : List Call) → Chain m cs (memory_after cs m) (returns_on cs m)
unfolding returns_on memory_after
can_chain m [] = none
can_chain m (c ∷ cs) = link (can_link_lem m c) (can_chain (done_by m c).after cs)

-- ---- what the calls returned, of the model

said_as : (cs : List Call) (σ : State) → answers_in (map written (returns_of cs σ)) ≡ answered cs σ
unfolding answers_in returns_of answered written
said_as [] σ = refl
said_as (c ∷ cs) σ = ap (noted (returned σ c).answer) (said_as cs (returned σ c).after)

happened_as : (c : Call) (σ : State) → happened c (written (returned σ c)) ≡ events_of σ c
unfolding happened events_of returned written Model.reconnect refused
happened_as (feeds s chunk buffer_length) σ = refl
happened_as (reconnects s) σ = ⊎_elim (λ t. rw t) (λ t. rw t) (either (leb station_count s))

events_as : (cs : List Call) (σ : State) → events_in cs (map written (returns_of cs σ)) ≡ events cs σ
unfolding events_in returns_of events
events_as [] σ = refl
events_as (c ∷ cs) σ = ap₂ ◌++◌ (happened_as c σ) (events_as cs (returned σ c).after)

-- ---- from any valid state

module _ (σ : State) (v : Valid.valid σ ≡ true) where
  module _ {m m' : Memory} {cs : List Call} {rs : List Done} (b : m ≡ encode σ) (w : all of_bytes cs ≡ true) (x : Chain m cs m' rs) where
    run_memory : m' ≡ encode (after cs σ)
    run_memory = chain_memory x ∙ ap (memory_after cs) b ∙ (whole_list σ v cs w).memory

    run_on : rs ≡ returns_on cs (encode σ)
    run_on = chain_returns x ∙ ap (returns_on cs) b

    run_returns : rs ≡ map written (returns_of cs σ)
    run_returns = run_on ∙ (whole_list σ v cs w).returns

    run_answers : answers_in rs ≡ answered cs σ
    run_answers = ap answers_in run_returns ∙ said_as cs σ

    run_events : events_in cs rs ≡ events cs σ
    run_events = ap (events_in cs) run_returns ∙ events_as cs σ

  -- every list of calls; a chunk is of bytes
  pub whole_run : {m m' : Memory} {cs : List Call} {rs : List Done} → m ≡ encode σ → all of_bytes cs ≡ true → (x : Chain m cs m' rs) → WholeRun σ x
  whole_run {m} {m'} {cs} {rs} b w x =
      let whole = whole_list σ v cs w in
      record {
        begins = b;
        memory = run_memory b w x;
        returns = run_returns b w x;
        rest = chain_rest x;
        never13 = λ r i. whole.never13 r (subst (Mem r) (run_on b w x) i);
        alike = λ {n} {n'} {ds} a u y e. (
            let same = whole.throughout.alike ds (sym (run_events a u y) ∙ e ∙ run_events b w x) in
            record { answers = run_answers a u y ∙ same.answers ∙ sym (run_answers b w x); memory = run_memory a u y ∙ ap encode same.end ∙ sym (run_memory b w x) });
        throughout = whole.throughout;
      }

  pub can_run : (cs : List Call) → all of_bytes cs ≡ true → CanRun σ cs
  unfolding CanRun
  can_run cs w =
      let whole = whole_list σ v cs w in
      subst (Chain (encode σ) cs (encode (after cs σ))) whole.returns (subst (λ (m : Memory). Chain (encode σ) cs m (returns_on cs (encode σ))) whole.memory (can_chain (encode σ) cs))

-- ---- from the start

-- a start that returned 0 left the start's memory
begun_as : (m₀ m : Memory) → StartPromise m₀ m 0 → m ≡ encode start
unfolding start_on refused_on
begun_as m₀ m d =
    on_if (λ (x : Done). 0 ≡ x.refusal → m ≡ x.after → m ≡ encode start) (sized m₀) _ _ (λ t e h. h) (λ t e h. absurd (omega (arith, e))) d.refusal d.memory

-- every start that returned 0, and every list of calls after it
pub whole_start : {m₀ m' : Memory} {cs : List Call} {rs : List Done} → all of_bytes cs ≡ true → (x : FromStart m₀ cs m' rs) → WholeStart x
unfolding WholeStart
whole_start {m₀} w x = whole_run start start_valid (begun_as m₀ x.begun x.started) w x.calls

can_begin : (m₀ : Memory) → sized m₀ ≡ true → StartPromise m₀ (encode start) 0
unfolding start_on
can_begin m₀ h = rw h (record { refusal = refl; memory = refl })

pub can_start : (m₀ : Memory) (cs : List Call) → all of_bytes cs ≡ true → CanStart m₀ cs
unfolding CanStart CanRun
can_start m₀ cs w h = record { begun = encode start; started = can_begin m₀ h; calls = can_run start start_valid cs w }
