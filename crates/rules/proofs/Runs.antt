-- A list of calls is what its events are: its answers and its end depend on nothing else. Assumes nothing.
use Prim.Native.Nat.{ℕ, zero, suc, ◌+◌, ◌≤◌, ◌<◌}
use native.Mathlib.Omega.{arith}
use mathlib.Core.Path.{◌≡◌, refl, sym, ap, ap₂, ◌∙◌}
use mathlib.Core.Bool.{Bool, true, false}
use mathlib.Core.List.{List, [], ◌∷◌, ◌++◌, map, append_assoc, map-append}
use lib.Dec.{leb, ltb}
use lib.ListN.{length, length-append, length-map, take, drop, length-drop, take-append-drop}
use borrow.Author.Tests.{lt-leb, le-ltb}
use Rattle.std.specs.Prelude.{if◌then◌else◌}
use Rattle.rules.specs.Frame.{max_answer, frame, framed, Framed, part, broken, whole}
use Rattle.rules.specs.Model.{joined, byte_at, step, refused, fed_on, fed_from, feed, reconnect, Step, Result, silent, answers}
use Rattle.rules.specs.Refusal.{no_station, short_buffer}
use Rattle.rules.specs.Run.{returned, after, noted, answered, events_of, events, happens, state_of, told, after_events, answers_to, Timed, station_of, noted_at, timed, place_of, told_at, timed_to, until_used, Call, Event, feeds, reconnects, byte, reconnected}
use Rattle.rules.specs.State.{station_count, station_at, change_station, State}
use Rattle.rules.specs.Station.{cleared}
use Rattle.rules.specs.Throughout.{Same}
use Rattle.rules.proofs.Numbers.{encode_some}
use Rattle.rules.proofs.Tables.{on_if}
use Rattle.rules.proofs.Steps.{◌then◌}

-- ---- no answer is empty

frame_filled : (body : List ℕ) → frame body ≡ [] → ⊥
unfolding frame
frame_filled body e = let l = ap length e in omega (arith, simp length-append at l, encode_some (length body))

-- a step that answers answers something
unfoldable pub Filled : Step → Type 0
Filled (silent q) = Unit {0}
Filled (answers a q) = a ≡ [] → ⊥

joined_filled : (p : State) (s : ℕ) (bytes : List ℕ) (x : Framed) → Filled (joined p s bytes x)
unfolding Filled joined
joined_filled p s bytes part = tt
joined_filled p s bytes broken = λ e. frame_filled _ e
joined_filled p s bytes (whole body) = λ e. frame_filled _ e

pub step_filled : (p : State) (s b : ℕ) → Filled (step p s b)
unfolding step byte_at Filled
step_filled p s b =
    let x = station_at p s in
    let bytes = x.pending ++ (b ∷ []) in
    on_if Filled x.is_broken (silent p) (joined p s bytes (framed bytes)) (λ t. tt) (λ t. joined_filled p s bytes (framed bytes))

-- ---- events in two parts

through_append : (rest bs : List Event) (p : State) → after_events (rest ++ bs) p ≡ after_events bs (after_events rest p)
unfolding after_events
through_append [] bs p = refl
through_append (e ∷ rest) bs p = through_append rest bs (state_of (happens p e))

told_append : (x : Step) (rest bs : List (List ℕ)) → told x (rest ++ bs) ≡ told x rest ++ bs
unfolding told
told_append (silent q) rest bs = refl
told_append (answers a q) rest bs = refl

heard_append : (rest bs : List Event) (p : State) → answers_to (rest ++ bs) p ≡ answers_to rest p ++ answers_to bs (after_events rest p)
unfolding answers_to after_events
heard_append [] bs p = refl
heard_append (e ∷ rest) bs p =
    let q = state_of (happens p e) in
    ap (told (happens p e)) (heard_append rest bs q) ∙ told_append (happens p e) (answers_to rest q) (answers_to bs (after_events rest q))

-- ---- a feed

-- what a feed returned, of some bytes of which it used k more than n
record Fold (n s : ℕ) (bytes : List ℕ) (p : State) (r : Result) : Type 0 where
  k : ℕ
  used : r.used ≡ n + k
  end : r.after ≡ after_events (map (byte s) (take k bytes)) p
  answer : noted r.answer [] ≡ answers_to (map (byte s) (take k bytes)) p
  few : length (take k bytes) ≡ k
  timed : (m : ℕ) → noted_at (m + k) s r.answer [] ≡ timed_to m (map (byte s) (take k bytes)) p

-- the same, after a byte that did x
record FoldOn (n s : ℕ) (bytes : List ℕ) (x : Step) (r : Result) : Type 0 where
  k : ℕ
  used : r.used ≡ n + k
  end : r.after ≡ after_events (map (byte s) (take k bytes)) (state_of x)
  answer : noted r.answer [] ≡ told x (answers_to (map (byte s) (take k bytes)) (state_of x))
  few : length (take k bytes) ≡ k
  timed : (m : ℕ) → noted_at (m + k) s r.answer [] ≡ told_at m s x (timed_to m (map (byte s) (take k bytes)) (state_of x))

on_step : (n s : ℕ) (bytes : List ℕ) (x : Step) → Filled x → ((q : State) → Fold n s bytes q (fed_from n s bytes q)) → FoldOn n s bytes x (fed_on n (λ q. fed_from n s bytes q) x)
unfolding fed_on after_events answers_to state_of told Filled noted noted_at told_at timed_to
on_step n s bytes (silent q) f ih = let r = ih q in record { k = r.k; used = r.used; end = r.end; answer = r.answer; few = r.few; timed = r.timed }
on_step n s bytes (answers [] q) f ih = absurd (f refl)
on_step n s bytes (answers (a ∷ rest) q) f ih =
    record { k = 0; used = omega arith; end = refl; answer = refl; few = refl; timed = λ m. ap (λ i. noted_at i s (a ∷ rest) []) (omega arith) }

fold : (bytes : List ℕ) (n s : ℕ) (p : State) → Fold n s bytes p (fed_from n s bytes p)
unfolding fed_from after_events answers_to noted happens noted_at timed_to place_of
fold [] n s p = record { k = 0; used = omega arith; end = refl; answer = refl; few = refl; timed = λ m. refl }
fold (b ∷ bytes) n s p =
    let r = on_step (n + 1) s bytes (step p s b) (step_filled p s b) (λ q. fold bytes (n + 1) s q) in
    record {
      k = suc r.k;
      used = r.used ∙ (let z = r.k in omega arith);
      end = r.end;
      answer = r.answer;
      few = ap suc r.few;
      timed = λ m. ap (λ i. noted_at i s (fed_from n s (b ∷ bytes) p).answer []) (let z = r.k in omega arith) ∙ r.timed (m + 1);
    }

-- ---- a call

record Folds (p : State) (s : ℕ) (es : List Event) (r : Result) : Type 0 where
  end : r.after ≡ after_events es p
  answer : noted r.answer [] ≡ answers_to es p
  timed : (m : ℕ) → noted_at (m + length es) s r.answer [] ≡ timed_to m es p

fed_folds : (s : ℕ) (chunk : List ℕ) (p : State) → Folds p s (map (byte s) (take (fed_from 0 s chunk p).used chunk)) (fed_from 0 s chunk p)
fed_folds s chunk p =
    let r = fold chunk 0 s p in
    let e : (fed_from 0 s chunk p).used ≡ r.k = r.used ∙ (let z = r.k in omega arith) in
    let l : length (map (byte s) (take r.k chunk)) ≡ r.k = length-map (take r.k chunk) (byte s) ∙ r.few in
    rw e (record { end = r.end; answer = r.answer; timed = λ m. ap (λ i. noted_at (m + i) s (fed_from 0 s chunk p).answer []) l ∙ r.timed m })

refused_folds : (k s : ℕ) (chunk : List ℕ) (p : State) → Folds p s (map (byte s) (take (refused k p).used chunk)) (refused k p)
unfolding refused after_events answers_to noted noted_at timed_to
refused_folds k s chunk p = record { end = refl; answer = refl; timed = λ m. refl }

folds : (p : State) (c : Call) → Folds p (station_of c) (events_of p c) (returned p c)
unfolding events_of returned feed reconnect refused after_events answers_to noted happens state_of told station_of noted_at timed_to told_at place_of
folds p (feeds s chunk buffer_length) =
    let P : Result → Type 0 = λ r. Folds p s (map (byte s) (take r.used chunk)) r in
    on_if P (leb station_count s) _ _ (λ t. refused_folds no_station s chunk p)
    (λ t. on_if P (ltb buffer_length max_answer) _ _ (λ u. refused_folds short_buffer s chunk p) (λ u. fed_folds s chunk p))
folds p (reconnects s) = rejoins (leb station_count s)
  where
    rejoins : (b : Bool) → Folds p s (if b then [] else reconnected s ∷ []) (if b then refused no_station p else record { refusal = 0; used = 0; answer = []; after = change_station s cleared p })
    rejoins true = record { end = refl; answer = refl; timed = λ m. refl }
    rejoins false = record { end = refl; answer = refl; timed = λ m. refl }

-- ---- a list of calls

pub run_end : (cs : List Call) (p : State) → after cs p ≡ after_events (events cs p) p
unfolding after events after_events
run_end [] p = refl
run_end (c ∷ cs) p =
    let r = returned p c in
    run_end cs r.after ∙ ap (after_events (events cs r.after)) (folds p c).end ∙ sym (through_append (events_of p c) (events cs r.after) p)

noted_append : (a : List ℕ) (rest : List (List ℕ)) → noted a rest ≡ noted a [] ++ rest
unfolding noted
noted_append [] rest = refl
noted_append (b ∷ bytes) rest = refl

pub run_answers : (cs : List Call) (p : State) → answered cs p ≡ answers_to (events cs p) p
unfolding answered events answers_to
run_answers [] p = refl
run_answers (c ∷ cs) p =
    let r = returned p c in
    noted_append r.answer (answered cs r.after)
    ∙ ap₂ ◌++◌ (folds p c).answer (run_answers cs r.after ∙ ap (answers_to (events cs r.after)) (folds p c).end)
    ∙ sym (heard_append (events_of p c) (events cs r.after) p)

-- each answer comes with the event that brings it
told_at_append : (n s : ℕ) (x : Step) (rest bs : List Timed) → told_at n s x (rest ++ bs) ≡ told_at n s x rest ++ bs
unfolding told_at
told_at_append n s (silent q) rest bs = refl
told_at_append n s (answers a q) rest bs = refl

timed_append : (n : ℕ) (rest bs : List Event) (p : State) → timed_to n (rest ++ bs) p ≡ timed_to n rest p ++ timed_to (n + length rest) bs (after_events rest p)
unfolding timed_to after_events
timed_append n [] bs p = ap (λ i. timed_to i bs p) (omega arith)
timed_append n (e ∷ rest) bs p =
    let q = state_of (happens p e) in
    let same : n + 1 + length rest ≡ n + suc (length rest) = omega arith in
    ap (told_at (n + 1) (place_of e) (happens p e)) (timed_append (n + 1) rest bs q)
    ∙ told_at_append (n + 1) (place_of e) (happens p e) (timed_to (n + 1) rest q) (timed_to (n + 1 + length rest) bs (after_events rest q))
    ∙ ap (λ i. told_at (n + 1) (place_of e) (happens p e) (timed_to (n + 1) rest q) ++ timed_to i bs (after_events rest q)) same

noted_at_append : (n s : ℕ) (a : List ℕ) (rest : List Timed) → noted_at n s a rest ≡ noted_at n s a [] ++ rest
unfolding noted_at
noted_at_append n s [] rest = refl
noted_at_append n s (b ∷ bytes) rest = refl

pub run_timed : (n : ℕ) (cs : List Call) (p : State) → timed n cs p ≡ timed_to n (events cs p) p
unfolding timed events timed_to
run_timed n [] p = refl
run_timed n (c ∷ cs) p =
    let r = returned p c in
    let k = n + length (events_of p c) in
    noted_at_append k (station_of c) r.answer (timed k cs r.after)
    ∙ ap₂ ◌++◌ ((folds p c).timed n) (run_timed k cs r.after ∙ ap (timed_to k (events cs r.after)) (folds p c).end)
    ∙ sym (timed_append n (events_of p c) (events cs r.after) p)

-- two lists of calls alike in their used bytes and reconnects, with the stations, give the same answers and the same state
pub cutting : (cs ds : List Call) (p : State) → events cs p ≡ events ds p → Same cs ds p
cutting cs ds p e =
    record {
      answers = run_answers cs p ∙ ap (λ es. answers_to es p) e ∙ sym (run_answers ds p);
      end = run_end cs p ∙ ap (λ es. after_events es p) e ∙ sym (run_end ds p);
    }

-- ---- a chunk that is fed until used up: where it is cut changes nothing

uses_some : (s b : ℕ) (bytes : List ℕ) (p : State) → 1 ≤ (fed_from 0 s (b ∷ bytes) p).used
unfolding fed_from
uses_some s b bytes p =
    let r = on_step (0 + 1) s bytes (step p s b) (step_filled p s b) (λ q. fold bytes (0 + 1) s q) in let z = r.k in let e = r.used in omega arith

-- a feed that is not refused
accepted : (p : State) (s : ℕ) (chunk : List ℕ) (buffer_length : ℕ) → s < station_count → max_answer ≤ buffer_length → feed p s chunk buffer_length ≡ fed_from 0 s chunk p
unfolding feed
accepted p s chunk buffer_length h g = rw (lt-leb station_count s h, le-ltb buffer_length max_answer g)

pub used_up_lem : (k : ℕ) (p : State) (s : ℕ) (chunk : List ℕ) (buffer_length : ℕ) → s < station_count → max_answer ≤ buffer_length → length chunk ≤ k → events (until_used k p s chunk buffer_length) p ≡ map (byte s) chunk
unfolding until_used events events_of returned
used_up_lem zero p s [] buffer_length h g l = refl
used_up_lem zero p s (b ∷ chunk) buffer_length h g l = absurd (omega arith)
used_up_lem (suc k) p s [] buffer_length h g l = refl
used_up_lem (suc k) p s (b ∷ chunk) buffer_length h g l =
    let r = feed p s (b ∷ chunk) buffer_length in
    let some : 1 ≤ r.used = rw (accepted p s (b ∷ chunk) buffer_length h g) (uses_some s b chunk p) in
    ap (λ es. map (byte s) (take r.used (b ∷ chunk)) ++ es)
    (used_up_lem k r.after s (drop r.used (b ∷ chunk)) buffer_length h g (simp length-drop (omega arith)))
    ∙ sym (map-append (byte s) (take r.used (b ∷ chunk)) (drop r.used (b ∷ chunk)))
    ∙ ap (map (byte s)) (take-append-drop r.used (b ∷ chunk))

events_append : (cs ds : List Call) (p : State) → events (cs ++ ds) p ≡ events cs p ++ events ds (after cs p)
unfolding events after
events_append [] ds p = refl
events_append (c ∷ cs) ds p = ap (λ es. events_of p c ++ es) (events_append cs ds (returned p c).after) ∙ sym (append_assoc (events_of p c) _ _)

-- one chunk, or the same bytes in two pieces
pub cut : (p : State) (s : ℕ) (a b : List ℕ) (buffer_length : ℕ) (n i j : ℕ) → s < station_count → max_answer ≤ buffer_length → length (a ++ b) ≤ n → length a ≤ i → length b ≤ j
    → Same (until_used n p s (a ++ b) buffer_length) (until_used i p s a buffer_length ++ until_used j (after (until_used i p s a buffer_length) p) s b buffer_length) p
cut p s a b buffer_length n i j h g ln li lj =
    let one = until_used i p s a buffer_length in
    cutting _ _ p
    (used_up_lem n p s (a ++ b) buffer_length h g ln ∙ map-append (byte s) a b
    ∙ sym (events_append one (until_used j (after one p) s b buffer_length) p ∙ ap₂ ◌++◌ (used_up_lem i p s a buffer_length h g li) (used_up_lem j (after one p) s b buffer_length h g lj)))
