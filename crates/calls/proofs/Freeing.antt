-- A changed handle of number 0 frees its slot: the memory after a chunk is valid, and there such a handle is the all-zero one. Assumes nothing.
use Prim.Native.Nat.{ℕ, ◌<◌}
use mathlib.Core.Path.{◌≡◌, refl, sym, ap, subst, ◌∙◌}
use mathlib.Core.Bool.{Bool, true, false}
use mathlib.Core.List.{List, map}
use borrow.Author.Tests.{ltb-true, ltb-false, lt-leb}
use lib.Dec.{ltb}
use lib.ListN.{length, get_or, set, get_or-map}
use lib.Seq.{get_or-set_same, set_out, take-length}
use Rattle.rules.specs.Basic.{all}
use Rattle.rules.specs.Table.{free}
use Rattle.rules.specs.Handle as rules
use Rattle.rules.specs.Frame.{max_answer}
use Rattle.rules.specs.State.{station_count}
use Rattle.rules.specs.Valid.{is_byte}
use Rattle.rules.specs.Memory.{Memory, slot_handle, handle_at, encode, decode, valid}
use Rattle.rules.specs.Model.{fed_from, feed}
use Rattle.rules.specs.Run.{feeds, returned, of_bytes}
use Rattle.rules.specs.Calls.{written}
use Rattle.rules.proofs.Facts.{valid_facts, facts_valid}
use Rattle.rules.proofs.Memory.{valid_state, valid_written, written_valid}
use Rattle.rules.proofs.WholeList.{call_valid}
use Rattle.std.specs.Prelude.{Option, None, Some, IfSome}
use Rattle.handle.specs.Meaning.{none, handle_of}
use Rattle.handle.specs.declared.Handle.{Handle}
use Rattle.state.specs.HandleFacts.{changed}
use Rattle.state.specs.declared.handles.Change.{Change}
use Rattle.valid.specs.Meaning.{memory_of}
use Rattle.lists.proofs.Truth.{all_below_lem}

-- ---- the memory after a chunk is valid

pub of_bytes_lem : (xs : List ℕ) → ((i : ℕ) → get_or xs i 0 < 256) → all is_byte xs ≡ true
unfolding is_byte
of_bytes_lem xs h = subst (λ (ys : List ℕ). all is_byte ys ≡ true) (take-length xs) (all_below_lem 256 xs h (length xs))

module _ (m : Memory) (v : valid m ≡ true) (s : ℕ) (chunk : List ℕ) (h : s < station_count) (bytes : all is_byte chunk ≡ true) where
  feeds_from : feed (decode m) s chunk max_answer ≡ fed_from 0 s chunk (decode m)
  unfolding feed
  feeds_from = rw (lt-leb station_count s h)

  pub stays_valid : valid (written (fed_from 0 s chunk (decode m))).after ≡ true
  unfolding written returned of_bytes
  stays_valid =
      rw (sym feeds_from) (written_valid (feed (decode m) s chunk max_answer).after (facts_valid _ (call_valid (decode m) (feeds s chunk max_answer) bytes (valid_facts (decode m) (valid_state m v)))))

-- ---- a handle of number 0 in valid memory

record_free : (m : Memory) → valid m ≡ true → (i : ℕ) → (get_or m.handles i rules.no_handle).number ≡ 0 → get_or m.handles i rules.no_handle ≡ rules.no_handle
unfolding encode decode slot_handle handle_at rules.no_handle
record_free m v i z =
    ap (λ (w : Memory). get_or w.handles i rules.no_handle) (sym (valid_written m v))
    ∙ get_or-map slot_handle (map handle_at m.handles) i free
    ∙ ap slot_handle (get_or-map handle_at m.handles i rules.no_handle)
    ∙ rw z

module _ (ts ds : List ℕ) (hs : List Handle) (cs ps : List ℕ) (c : Change) (v : valid (memory_of ts ds (changed hs (Some c)) cs ps) ≡ true) (z : c.handle.number ≡ 0) where
  placed : c.slot < length hs → get_or (map handle_of (changed hs (Some c))) c.slot rules.no_handle ≡ handle_of c.handle
  unfolding rules.no_handle
  placed l = get_or-map handle_of (changed hs (Some c)) c.slot none ∙ ap handle_of (get_or-set_same hs c.slot c.handle none l)

  is_none : c.slot < length hs → c.handle ≡ none
  unfolding rules.no_handle
  is_none l =
      let e : handle_of c.handle ≡ rules.no_handle = sym (placed l) ∙ record_free (memory_of ts ds (changed hs (Some c)) cs ps) v c.slot (ap (λ (x : rules.Handle). x.number) (placed l) ∙ z) in
      ap (λ (x : rules.Handle). record { station = x.station; number = x.number; token = x.token; mask = x.mask }) e

  pub slot_freed : changed hs (Some c) ≡ set hs c.slot none
  slot_freed = by (ltb c.slot (length hs)) refl
    where
      by : (b : Bool) → ltb c.slot (length hs) ≡ b → changed hs (Some c) ≡ set hs c.slot none
      by true e = ap (set hs c.slot) (is_none (ltb-true c.slot (length hs) e))
      by false e = let l = ltb-false c.slot (length hs) e in set_out hs c.slot c.handle l ∙ sym (set_out hs c.slot none l)

-- the change, if any
pub change_freed : (ts ds : List ℕ) (hs : List Handle) (cs ps : List ℕ) (o : Option Change) → valid (memory_of ts ds (changed hs o) cs ps) ≡ true
    → IfSome o (λ c. c.handle.number ≡ 0 → changed hs (Some c) ≡ set hs c.slot none)
change_freed ts ds hs cs ps None v = tt
change_freed ts ds hs cs ps (Some c) v = slot_freed ts ds hs cs ps c v
