-- Over any list of calls from a valid state: the state stays valid, and what lasts of tokens and handles lasts. Assumes nothing.
use Prim.Native.Nat.{ℕ, zero, suc, ◌+◌, ◌*◌, ◌-◌, ◌≤◌, ◌<◌}
use native.Mathlib.Omega.{arith}
use mathlib.Core.Path.{◌≡◌, refl, sym, ap, subst}
use mathlib.Core.Bool.{Bool, true, false, ◌||◌}
use mathlib.Core.Logic.{⊎_elim}
use mathlib.Core.List.{List, [], ◌∷◌, ◌++◌, map}
use lib.Dec.{eqb, leb, ltb}
use lib.ListN.{length, take}
use borrow.Author.Tests.{leb-false}
use Rattle.std.specs.Prelude.{if◌then◌else◌}
use Rattle.rules.specs.Basic.{implies, all, is_empty}
use Rattle.rules.specs.Bits.{within}
use Rattle.rules.specs.Frame.{max_body, max_answer, second_of, length_of, framed_by, framed, Length, Framed, unread, invalid, size, part, broken, whole}
use Rattle.rules.specs.Growth.{Live, LiveHandle, Mem, Follows, here, there}
use Rattle.rules.specs.Handle.{Handle}
use Rattle.rules.specs.Number.{max32, max64}
use Rattle.rules.specs.Model.{joined, byte_at, step, refused, fed_from, feed, Step, Result, silent, answers}
use Rattle.rules.specs.Refusal.{no_station, short_buffer}
use Rattle.rules.specs.Run.{returned, after, answered, of_bytes, events_of, events, happens, state_of, told, after_events, answers_to, outcome_of, outcome_at, outcomes, served_by, Call, Event, Serving, feeds, reconnects, byte, reconnected, serves}
use Rattle.rules.specs.State.{station_count, start, with_stations, station_at, change_station, number_of, handle_number, State}
use Rattle.rules.specs.Station.{start_station, with_pending, cleared, broken_off, Station}
use Rattle.rules.specs.Token.{Token}
use Rattle.rules.specs.Valid.{is_byte, is_part, stream_valid, valid, is_listed}
use Rattle.rules.proofs.Computes.{computes}
use Rattle.rules.specs.Throughout.{IsAnswer}
use Rattle.rules.proofs.Logic.{and_l, and_r, and_i, all_mem, mem_none, mem_append, get_or_mem, map_mem, mem_map, all_append}
use Rattle.rules.proofs.Tables.{on_if, only_one}
use Rattle.rules.proofs.Facts.{StateFacts}
use Rattle.rules.proofs.Changes.{carried, of_later, later_refl, handles_refl, sids_refl, OnlyStream, only_pending, only_cleared, only_broken, stream_facts}
use Rattle.rules.proofs.PrivilegesKept.{sound}
use Rattle.rules.proofs.Steps.{Advance, stays, ◌then◌}
use Rattle.rules.proofs.Kept.{serve_step}
use Rattle.rules.proofs.Answers.{serve_answers, break_answers}
use Rattle.rules.proofs.Runs.{run_end, run_answers}

-- ---- a frame's body is of bytes

OfBytes : Framed → Type 0
OfBytes part = Unit {0}
OfBytes broken = Unit {0}
OfBytes (whole body) = all is_byte body ≡ true

Rest : Length → Type 0
Rest unread = Unit {0}
Rest invalid = Unit {0}
Rest (size n after) = all is_byte after ≡ true

second : (a : ℕ) (bytes : List ℕ) → all is_byte bytes ≡ true → Rest (second_of a bytes)
unfolding second_of Rest all
second a [] h = tt
second a (b ∷ after) h = on_if Rest (eqb b 0 || leb 128 b || ltb max_body (a - 128 + 128 * b)) _ _ (λ t. tt) (λ t. and_r (is_byte b) _ h)

first : (bytes : List ℕ) → all is_byte bytes ≡ true → Rest (length_of bytes)
unfolding length_of Rest all
first [] h = tt
first (a ∷ after) h =
    let rest = and_r (is_byte a) (all is_byte after) h in
    on_if Rest (eqb a 0) _ _ (λ t. tt) (λ t. on_if Rest (ltb a 128) _ _ (λ u. rest) (λ u. second a after rest))

by_length : (l : Length) → Rest l → OfBytes (framed_by l)
unfolding framed_by OfBytes Rest
by_length unread h = tt
by_length invalid h = tt
by_length (size n body) h = on_if OfBytes (ltb (length body) n) part (whole body) (λ t. tt) (λ t. h)

in_frame : (bytes : List ℕ) → all is_byte bytes ≡ true → OfBytes (framed bytes)
unfolding framed
in_frame bytes h = by_length (length_of bytes) (first bytes h)

-- ---- one byte

-- another stream at a station, that could have come from a stream
streams : (p : State) (s : ℕ) (f : Station → Station) → OnlyStream f → ((x : Station) → stream_valid (f x) ≡ true) → StateFacts p → Advance p (change_station s f p)
unfolding change_station with_stations
streams p s f e ok k = record { facts = stream_facts p s f e (λ x m. ok x) k; later = later_refl p.tokens; handles = handles_refl p.handles; sids = sids_refl p.sids }

pub clears : (p : State) (s : ℕ) → StateFacts p → Advance p (change_station s cleared p)
unfolding cleared with_pending stream_valid all is_part framed framed_by length_of implies
clears p s f = streams p s cleared only_cleared (λ x. refl) f

breaks : (p : State) (s : ℕ) → StateFacts p → Advance p (change_station s broken_off p)
unfolding broken_off stream_valid all is_part framed framed_by length_of implies is_empty
breaks p s f = streams p s broken_off only_broken (λ x. refl) f

keeps : (p : State) (s : ℕ) (bytes : List ℕ) → all is_byte bytes ≡ true → framed bytes ≡ part → StateFacts p → Advance p (change_station s (with_pending bytes) p)
unfolding with_pending stream_valid implies is_part
keeps p s bytes b e f = streams p s (with_pending bytes) (only_pending bytes) (λ x. and_i (and_i b (ap is_part e)) refl) f

-- a body is served on a valid state, and is a step from it
pub record Onward (x : Serving) : Type 0 where
  pub facts : StateFacts x.before
  pub step : Advance x.before (served_by x).state
  pub station : x.station < station_count

onward : (p : State) (s : ℕ) (body : List ℕ) → all is_byte body ≡ true → s < station_count → StateFacts p → Onward (record { before = change_station s cleared p; station = s; body = body })
unfolding served_by
onward p s body o in8 f = let g = (clears p s f).facts in record { facts = g; step = serve_step (change_station s cleared p) g s in8 body o; station = in8 }

joins : (p : State) (s : ℕ) (bytes : List ℕ) (x : Framed) → framed bytes ≡ x → OfBytes x → all is_byte bytes ≡ true → s < station_count → StateFacts p → Advance p (state_of (joined p s bytes x))
unfolding joined state_of OfBytes served_by
joins p s bytes part e o b in8 f = keeps p s bytes b e f
joins p s bytes broken e o b in8 f = breaks p s f
joins p s bytes (whole body) e o b in8 f = clears p s f then (onward p s body o in8 f).step

pending_bytes_lem : (x : Station) → stream_valid x ≡ true → all is_byte x.pending ≡ true
unfolding stream_valid
pending_bytes_lem x h = search (and_l, and_r)

-- a station's stream with the next byte
stream_bytes : (p : State) (s b : ℕ) → s < station_count → is_byte b ≡ true → StateFacts p → all is_byte ((station_at p s).pending ++ (b ∷ [])) ≡ true
unfolding all station_at
stream_bytes p s b in8 w f =
    let x = station_at p s in
    let ok = f.loose.each_station x (get_or_mem p.stations s start_station (rw f.loose.stations in8)) in
    all_append is_byte x.pending (b ∷ []) (pending_bytes_lem x ok) (and_i w refl)

byte_step : (p : State) (s b : ℕ) → s < station_count → is_byte b ≡ true → StateFacts p → Advance p (state_of (step p s b))
unfolding step byte_at state_of
byte_step p s b in8 w f =
    let x = station_at p s in
    let bytes = x.pending ++ (b ∷ []) in
    let all_bytes = stream_bytes p s b in8 w f in
    on_if (λ (y : Step). Advance p (state_of y)) x.is_broken (silent p) (joined p s bytes (framed bytes)) (λ t. stays f)
    (λ t. joins p s bytes (framed bytes) refl (in_frame bytes all_bytes) all_bytes in8 f)

-- ---- events

unfoldable Happens : Event → Type 0
Happens (byte s b) = (s < station_count) × (is_byte b ≡ true)
Happens (reconnected s) = Unit {0}

event_step : (p : State) (e : Event) → Happens e → StateFacts p → Advance p (state_of (happens p e))
unfolding happens Happens state_of
event_step p (byte s b) h f = byte_step p s b h.0 h.1 f
event_step p (reconnected s) h f = clears p s f

events_step : (es : List Event) (p : State) → ((e : Event) → Mem e es → Happens e) → StateFacts p → Advance p (after_events es p)
unfolding after_events
events_step [] p h f = stays f
events_step (e ∷ es) p h f =
    let a = event_step p e (h e (here refl)) f in
    a then (events_step es (state_of (happens p e)) (λ x m. h x (there m)) a.facts)

-- every body that events bring is served on a valid state
event_serves : (p : State) (e : Event) → Happens e → StateFacts p → (x : Serving) → Mem (serves x) (outcome_at p e) → Onward x
unfolding outcome_at outcome_of Happens OfBytes
event_serves p (reconnected s) h f x m = absurd (mem_none m)
event_serves p (byte s b) h f x m =
    let bytes = (station_at p s).pending ++ (b ∷ []) in
    go (station_at p s).is_broken (framed bytes) (in_frame bytes (stream_bytes p s b h.0 h.1 f)) m
  where
    go : (t : Bool) (y : Framed) → OfBytes y → Mem (serves x) (if t then [] else outcome_of p s y) → Onward x
    go true y o m = absurd (mem_none m)
    go false part o m = absurd (mem_none m)
    go false broken o (here e) = absurd (let z : ◌≡◌ {A = ℕ} 0 1 = cc in omega arith)
    go false broken o (there m) = absurd (mem_none m)
    go false (whole body) o (here e) = subst Onward (let q : record { before = change_station s cleared p; station = s; body = body } ≡ x = cc in q) (onward p s body o h.0 f)
    go false (whole body) o (there m) = absurd (mem_none m)

events_serve : (es : List Event) (p : State) → ((e : Event) → Mem e es → Happens e) → StateFacts p → (x : Serving) → Mem (serves x) (outcomes es p) → Onward x
unfolding outcomes
events_serve [] p h f x m = absurd (mem_none m)
events_serve (e ∷ es) p h f x m =
    ⊎_elim (event_serves p e (h e (here refl)) f x)
    (events_serve es (state_of (happens p e)) (λ y k. h y (there k)) (event_step p e (h e (here refl)) f).facts x)
    (mem_append (outcome_at p e) m)

-- ---- calls: only bytes, and only of the stations

mem_take : {A : Type 0} (k : ℕ) (xs : List A) {a : A} → Mem a (take k xs) → Mem a xs
mem_take {A = A} zero xs {a = a} x' = elim x' [ ]
mem_take {A = A} (suc k) [] {a = a} x3 = elim x3 [ ]
mem_take (suc k) (x ∷ xs) (here e) = here e
mem_take (suc k) (x ∷ xs) (there m) = there (mem_take k xs m)

used_bytes : (s : ℕ) (chunk : List ℕ) (k : ℕ) → s < station_count → all is_byte chunk ≡ true → (e : Event) → Mem e (map (byte s) (take k chunk)) → Happens e
unfolding Happens
used_bytes s chunk k in8 w e m =
    let r = mem_map (byte s) (take k chunk) m in subst Happens (sym r.2) (in8, all_mem is_byte chunk w (mem_take k chunk r.1))

call_happens : (p : State) (c : Call) → of_bytes c ≡ true → (e : Event) → Mem e (events_of p c) → Happens e
unfolding events_of of_bytes feed refused Happens
call_happens p (feeds s chunk buffer_length) w =
    let P : Result → Type 0 = λ r. (e : Event) → Mem e (map (byte s) (take r.used chunk)) → Happens e in
    let none : (e : Event) → Mem e [] → Happens e = λ e m. absurd (mem_none m) in
    on_if P (leb station_count s) (refused no_station p) (if ltb buffer_length max_answer then refused short_buffer p else fed_from 0 s chunk p) (λ t. none)
    (λ t. on_if P (ltb buffer_length max_answer) (refused short_buffer p) (fed_from 0 s chunk p) (λ u. none) (λ u. used_bytes s chunk (fed_from 0 s chunk p).used (leb-false station_count s t) w))
call_happens p (reconnects s) w = on_if (λ es. (e : Event) → Mem e es → Happens e) (leb station_count s) [] (reconnected s ∷ []) (λ t e m. absurd (mem_none m)) (λ t. rejoins)
  where
    rejoins : (e : Event) → Mem e (reconnected s ∷ []) → Happens e
    rejoins e (here q) = subst Happens (sym q) tt
    rejoins e (there m) = absurd (mem_none m)

run_happens : (cs : List Call) (p : State) → all of_bytes cs ≡ true → (e : Event) → Mem e (events cs p) → Happens e
unfolding events all
run_happens [] p w e m = absurd (mem_none m)
run_happens (c ∷ cs) p w e m =
    ⊎_elim (call_happens p c (and_l (of_bytes c) (all of_bytes cs) w) e) (run_happens cs (returned p c).after (and_r (of_bytes c) (all of_bytes cs) w) e) (mem_append (events_of p c) m)

pub run_serves : (cs : List Call) (p : State) → all of_bytes cs ≡ true → StateFacts p → (x : Serving) → Mem (serves x) (outcomes (events cs p) p) → Onward x
run_serves cs p w f = events_serve (events cs p) p (run_happens cs p w) f

pub run_step : (cs : List Call) (p : State) → all of_bytes cs ≡ true → StateFacts p → Advance p (after cs p)
run_step cs p w f = rw (run_end cs p) (events_step (events cs p) p (run_happens cs p w) f)

-- ---- the start is one such state

pub start_valid : valid start ≡ true
unfolding computes
start_valid = refl

-- ---- from a valid state

module _ (σ : State) (f : StateFacts σ) where
  handle_given : (h : Handle) → LiveHandle h σ → (1 ≤ h.number) × (h.number < σ.handles.next)
  unfolding LiveHandle handle_number
  handle_given h m = f.loose.handles.given h.number (map_mem handle_number m)

  token_given : (t : Token) → Live t σ → (1 ≤ t.number) × (t.number < σ.tokens.next)
  unfolding Live number_of
  token_given t m = f.loose.tokens.given t.number (map_mem number_of m)

  pub sids_listed : (t : Token) → Live t σ → is_listed σ.sids t ≡ true
  unfolding Live
  sids_listed t m = f.loose.listed t m

  -- numbers are from 1, and the largest of their type is never given
  pub handle_numbers_lem : (h : Handle) → LiveHandle h σ → (1 ≤ h.number) × (h.number < max32)
  handle_numbers_lem h m = let g = handle_given h m in let below = g.1 in let high = f.loose.handles.high in (g.0, omega arith)

  pub token_numbers_lem : (t : Token) → Live t σ → (1 ≤ t.number) × (t.number < max64)
  token_numbers_lem t m = let g = token_given t m in let below = g.1 in let high = f.loose.tokens.high in (g.0, omega arith)

  -- enabled privileges are among the present ones
  pub enabled_present : (t : Token) → Live t σ → within t.privileges.enabled t.privileges.present ≡ true
  unfolding Live
  enabled_present t m = (sound t.privileges (f.loose.each_token t m).privileges).enabled

  pub default_present : (t : Token) → Live t σ → within t.privileges.by_default t.privileges.present ≡ true
  unfolding Live
  default_present t m = (sound t.privileges (f.loose.each_token t m).privileges).by_default

  module _ (cs : List Call) (w : all of_bytes cs ≡ true) where
    -- a token that is live at both ends: all that lasts lasted
    pub lasts : (t u : Token) → Live t σ → Live u (after cs σ) → u.number ≡ t.number → Follows t u
    unfolding Live
    lasts t u mt mu e = carried Follows σ (after cs σ) f.loose (of_later (run_step cs σ w f).later) t u mt mu e

    -- a handle that is live at both ends is the same
    pub handle_kept_lem : (h k : Handle) → LiveHandle h σ → LiveHandle k (after cs σ) → k.number ≡ h.number → k ≡ h
    unfolding LiveHandle handle_number
    handle_kept_lem h k mh mk e =
        let below = (handle_given h mh).1 in
        let was = (run_step cs σ w f).handles.old k mk (omega arith) in
        only_one handle_number σ.handles.slots f.loose.handles.apart was mh e

-- ---- every answer is one valid frame that fits

unfoldable Tells : Step → Type 0
Tells (silent q) = Unit {0}
Tells (answers a q) = IsAnswer a

joined_tells : (p : State) (s : ℕ) (bytes : List ℕ) (x : Framed) → StateFacts p → Tells (joined p s bytes x)
unfolding joined Tells
joined_tells p s bytes part f = tt
joined_tells p s bytes broken f = break_answers
joined_tells p s bytes (whole body) f = serve_answers (change_station s cleared p) s body (clears p s f).facts

event_tells : (p : State) (e : Event) → StateFacts p → Tells (happens p e)
unfolding happens step byte_at Tells
event_tells p (byte s b) f =
    let x = station_at p s in
    let bytes = x.pending ++ (b ∷ []) in
    on_if Tells x.is_broken (silent p) (joined p s bytes (framed bytes)) (λ t. tt) (λ t. joined_tells p s bytes (framed bytes) f)
event_tells p (reconnected s) f = tt

heard : (x : Step) (rest : List (List ℕ)) → Tells x → ((a : List ℕ) → Mem a rest → IsAnswer a) → (a : List ℕ) → Mem a (told x rest) → IsAnswer a
unfolding told Tells
heard (silent q) rest t h a m = h a m
heard (answers b q) rest t h a (here e) = subst IsAnswer (sym e) t
heard (answers b q) rest t h a (there m) = h a m

events_tell : (es : List Event) (p : State) → ((e : Event) → Mem e es → Happens e) → StateFacts p → (a : List ℕ) → Mem a (answers_to es p) → IsAnswer a
unfolding answers_to
events_tell [] p h f = λ a m. absurd (mem_none m)
events_tell (e ∷ es) p h f =
    heard (happens p e) (answers_to es (state_of (happens p e))) (event_tells p e f)
    (events_tell es (state_of (happens p e)) (λ x m. h x (there m)) (event_step p e (h e (here refl)) f).facts)

pub all_fit : (cs : List Call) (σ : State) → all of_bytes cs ≡ true → StateFacts σ → (a : List ℕ) → Mem a (answered cs σ) → IsAnswer a
all_fit cs σ w f = rw (run_answers cs σ) (events_tell (events cs σ) σ (run_happens cs σ w) f)
