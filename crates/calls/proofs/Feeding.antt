-- What feed returns in each case is what the rules say of it. Assumes nothing.
use Prim.Native.Nat.{ℕ, ◌≤◌, ◌<◌}
use mathlib.Core.Path.{◌≡◌, refl, sym, ◌∙◌}
use mathlib.Core.Bool.{Bool, true, false, not}
use mathlib.Core.List.{List}
use borrow.Author.Tests.{le-leb, lt-leb, lt-ltb, le-ltb, not-true, not-false}
use lib.ListN.{length, get_or}
use mir.Syntax.{w8}
use mir.Val.{Fits}
use Rattle.std.specs.Prelude.{Ok, Err}
use Rattle.rules.specs.Refusal.{no_station, short_buffer, invalid_memory}
use Rattle.rules.specs.Frame.{max_answer}
use Rattle.rules.specs.State.{station_count}
use Rattle.rules.specs.Memory.{Memory, decode, valid}
use Rattle.rules.specs.Model.{fed_from}
use Rattle.rules.specs.Calls.{refused_on, written, feed_on, buffer}
use Rattle.handle.specs.Loaded.{loaded}
use Rattle.handle.specs.declared.Handle.{Handle}
use Rattle.valid.specs.Meaning.{memory_of}
use Rattle.valid.specs.Tested.{ValidTested}
use Rattle.state.specs.HandleFacts.{changed}
use Rattle.start.specs.Refusal.{number_of}
use Rattle.start.specs.declared.refusal.CallRefusal.{CallRefusal}
use Rattle.start.specs.declared.refusal.CallRefusal.TheVariants.{NoStation, ShortBuffer, InvalidMemory}
use Rattle.calls.specs.Promise.{FeedsWith}
use Rattle.calls.specs.Accepted.{Accepted}
use Rattle.calls.specs.declared.Turn.{Turn}
use Rattle.start.proofs.Parts.{tested_valid}
use Rattle.calls.proofs.Freeing.{of_bytes_lem, stays_valid, change_freed}

-- ---- by cases

module _ (m : Memory) (s : ℕ) (chunk : List ℕ) (buffer_length : ℕ) where
  no_station_lem : station_count ≤ s → feed_on m s chunk buffer_length ≡ refused_on no_station m
  unfolding feed_on
  no_station_lem h = rw (le-leb station_count s h)

  module _ (h : s < station_count) where
    short : buffer_length < max_answer → feed_on m s chunk buffer_length ≡ refused_on short_buffer m
    unfolding feed_on
    short l = rw (lt-leb station_count s h, lt-ltb buffer_length max_answer l)

    module _ (l : max_answer ≤ buffer_length) where
      invalid : valid m ≡ false → feed_on m s chunk buffer_length ≡ refused_on invalid_memory m
      unfolding feed_on
      invalid v = rw (lt-leb station_count s h, le-ltb buffer_length max_answer l, v)

      feeds : valid m ≡ true → feed_on m s chunk buffer_length ≡ written (fed_from 0 s chunk (decode m))
      unfolding feed_on
      feeds v = rw (lt-leb station_count s h, le-ltb buffer_length max_answer l, v)

-- ---- with what the code has at each return

module _ (s : ℕ) (chunk : List ℕ) (count : ℕ) (items : List Handle) (ts ds cs ps out : List ℕ) where
  refuses : (r : CallRefusal) → ((hs : List Handle) → length hs ≡ count → loaded hs ≡ items → feed_on (memory_of ts ds hs cs ps) s chunk (length out) ≡ refused_on (number_of r) (memory_of ts ds hs cs ps))
      → FeedsWith s chunk count items ts ds cs ps out ts ds cs ps out (Err r)
  unfolding refused_on buffer
  refuses r d = record {
    fed = λ hs l e. rw (d hs l e) (record {
      refusal = refl;
      used = refl;
      answered = refl;
      memory = refl;
      answer = refl;
    });
    clears = λ hs l e. tt;
  }

  pub feed_no_station : station_count ≤ s → FeedsWith s chunk count items ts ds cs ps out ts ds cs ps out (Err NoStation)
  feed_no_station h = refuses NoStation (λ hs l e. no_station_lem (memory_of ts ds hs cs ps) s chunk (length out) h)

  module _ (h : s < station_count) where
    pub feed_short : length out < max_answer → FeedsWith s chunk count items ts ds cs ps out ts ds cs ps out (Err ShortBuffer)
    feed_short l = refuses ShortBuffer (λ hs k e. short (memory_of ts ds hs cs ps) s chunk (length out) h l)

    module _ (l : max_answer ≤ length out) (b : Bool) (t : ValidTested count items ts ds cs ps b) where
      pub feed_invalid : not b ≡ true → FeedsWith s chunk count items ts ds cs ps out ts ds cs ps out (Err InvalidMemory)
      feed_invalid f = refuses InvalidMemory (λ hs k e. invalid (memory_of ts ds hs cs ps) s chunk (length out) h l (sym (t.means hs k e) ∙ not-true b f))

      -- the chunk is of bytes
      pub feeds_with : ((i : ℕ) → Fits w8 (get_or chunk i 0)) → not b ≡ false → {ts' ds' cs' ps' out' : List ℕ} {u : Turn} → Accepted s chunk ts ds items cs ps out ts' ds' cs' ps' out' u
          → FeedsWith s chunk count items ts ds cs ps out ts' ds' cs' ps' out' (Ok u)
      feeds_with w f {ts'} {ds'} {cs'} {ps'} {out'} {u} a =
          let m = memory_of ts ds items cs ps in
          let v : valid (memory_of ts' ds' (changed items u.change) cs' ps') ≡ true = rw a.fed.memory (stays_valid m (tested_valid t f) s chunk h (of_bytes_lem chunk (λ i. (w i).fits))) in
          record {
            fed = λ hs k e. rw (t.all (not-false b f) hs k e, feeds m s chunk (length out) h l (tested_valid t f)) a.fed;
            clears = λ hs k e. rw (t.all (not-false b f) hs k e) (change_freed ts' ds' items cs' ps' u.change v);
          }
