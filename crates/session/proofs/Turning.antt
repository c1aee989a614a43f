-- What the broker's calls by value give to the session. Assumes nothing.
use Prim.Native.Nat.{ℕ, ◌*◌, ◌<◌}
use native.Mathlib.Omega.{arith}
use mathlib.Core.Path.{◌≡◌, refl, sym, ap, ◌∙◌}
use mathlib.Core.List.{List}
use Rattle.std.specs.Prelude.{Result, Ok, Err}
use lib.ListN.{length, get_or, take, drop, replicate, length-append, length-replicate}
use lib.Seq.{take_at}
use Rattle.rules.specs.State.{handle_slots}
use Rattle.rules.specs.Memory.{Memory}
use Rattle.rules.specs.Calls.{feed_on, buffer}
use Rattle.handle.specs.Meaning.{none}
use Rattle.handle.specs.Words.{slot_words, records_from, records_in}
use Rattle.handle.specs.Loaded.{loaded}
use Rattle.handle.specs.declared.Handle.{Handle}
use Rattle.handle.specs.declared.Handles.{Handles}
use Rattle.valid.specs.Meaning.{memory_of}
use Rattle.state.specs.HandleFacts.{changed}
use Rattle.start.specs.Promise.{freed, StartsWith}
use Rattle.start.specs.declared.refusal.CallRefusal.{CallRefusal}
use Rattle.calls.specs.Promise.{Feeds, fed_as, change_of, FeedsWith}
use Rattle.calls.specs.declared.Fed.{Fed}
use Rattle.calls.specs.declared.Turn.{Turn}
use Rattle.handle.proofs.Words.{records_long}
use Rattle.calls.proofs.Freeing.{of_bytes_lem}
use Rattle.session.specs.Turns.{held, Starts, Turns}
use Rattle.session.specs.declared.turn.Memory as program
use Rattle.session.proofs.Feeding.{call_goes, call_refused, call_valid, call_taken, call_skipped}

-- ---- start

-- zeros are free slots
records_none : records_in (replicate (handle_slots * slot_words) 0) ≡ replicate handle_slots none
unfolding records_from
records_none = refl

-- all handles freed, or none: they are free already
none_freed : (r : Result Unit CallRefusal) → freed r (replicate handle_slots none) ≡ replicate handle_slots none
none_freed (Ok u) = refl
none_freed (Err e) = refl

pub started : (m n : program.Memory) (x : Result Unit CallRefusal)
    → n.handles ≡ record { words = replicate (handle_slots * slot_words) 0 }
    → StartsWith handle_slots m.tokens.now m.dacls.now m.control.now m.pending.now n.tokens.now n.dacls.now n.control.now n.pending.now x → Starts m n
started m n x e w =
    let hs : List Handle = replicate handle_slots none in
    let is : records_in n.handles.words ≡ hs = ap (λ (h : Handles). records_in h.words) e ∙ records_none in
    record {
      handles = is;
      memory = rw is (ap (λ (y : List Handle). memory_of n.tokens.now n.dacls.now y n.control.now n.pending.now) (sym (none_freed x)) ∙ (w.started hs (length-replicate handle_slots none)).memory);
    }

-- ---- feed

module _ (s : ℕ) (chunk : List ℕ) (bytes : (i : ℕ) → get_or chunk i 0 < 256) (m m' : Memory) (out out' : List ℕ) (r : Fed) (f : Feeds (feed_on m s chunk (length out)) m' out out' r) where
  answer : take r.answered out' ≡ (feed_on m s chunk (length out)).answer
  unfolding buffer
  answer = ap (take r.answered) f.answer ∙ take_at _ _ r.answered (sym f.answered)

  turns : Turns s chunk m m' out out' r
  unfolding buffer
  turns =
      let d = feed_on m s chunk (length out) in
      let g = call_goes m s chunk (length out) in
      record {
        feeds = f;
        inside = omega (arith, f.used, g.inside);
        fits = omega (arith, f.answered, ap length f.answer, length-append d.answer (drop (length d.answer) out));
        refusal = λ v fits z. f.refusal ∙ call_refused m v s chunk (length out) fits (λ e. z (f.refusal ∙ e));
        forward = λ e h. omega (arith, f.used, g.forward (sym f.refusal ∙ e) h);
        stays = λ v. rw f.memory (call_valid m v s chunk (length out) (of_bytes_lem chunk bytes));
        taken = λ v fits some e. rw (answer, f.memory, f.used) (call_taken m v s chunk (length out) (of_bytes_lem chunk bytes) fits some (sym f.refusal ∙ e));
        skipped = λ v fits some z. rw f.memory (call_skipped m v s chunk (length out) (of_bytes_lem chunk bytes) fits some (λ e. z (f.refusal ∙ e)));
      }

pub turned : (chunk : List ℕ) (bytes : (i : ℕ) → get_or chunk i 0 < 256) (s : ℕ) (m : program.Memory) (ts ds ws cs ps out out' : List ℕ) (x : Result Turn CallRefusal) (r : Fed)
    → FeedsWith s chunk handle_slots (records_in m.handles.words) m.tokens.now m.dacls.now m.control.now m.pending.now out ts ds cs ps out' x
    → records_in ws ≡ changed (records_in m.handles.words) (change_of x) → r ≡ fed_as x
    → Turns s chunk (held m) (memory_of ts ds (records_in ws) cs ps) out out' r
turned chunk bytes s m ts ds ws cs ps out out' x r w e f =
    let hs : List Handle = records_in m.handles.words in
    let l : length hs ≡ handle_slots = records_long handle_slots m.handles.words in
    let all : loaded hs ≡ hs = take_at hs (replicate handle_slots none) handle_slots l in
    rw f (turns s chunk bytes (held m) (memory_of ts ds (records_in ws) cs ps) out out' (fed_as x) (rw e (w.fed hs l all)))
