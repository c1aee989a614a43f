-- The sizes of the lent parts, and the test of all lent memory by them: of every lent list with these handles. Assumes nothing.
use Prim.Native.Nat.{ℕ, ◌*◌, ◌^◌, ◌<◌}
use mathlib.Core.Path.{◌≡◌, refl, sym, ap, ◌∙◌}
use mathlib.Core.Bool.{Bool, true, false, not, ◌&&◌, and-false}
use mathlib.Core.List.{List, map}
use borrow.Author.Tests.{eqb-true, ne_eqb, not-true, not-false}
use lib.Dec.{eqb}
use lib.ListN.{length, replicate, length-map, length-replicate}
use lib.Seq.{take_at}
use Rattle.std.specs.Array.{IsWholeChunk}
use Rattle.rules.specs.Token.{max_dacl}
use Rattle.rules.specs.State.{token_slots, handle_slots, station_count}
use Rattle.rules.specs.Memory.{token_words, control_words, pending_bytes, next_token, sized, valid}
use Rattle.rules.proofs.Logic.{and_l, and_r, not_both}
use Rattle.handle.specs.Meaning.{none, handle_of}
use Rattle.handle.specs.Loaded.{loaded}
use Rattle.handle.specs.declared.Handle.{Handle}
use Rattle.valid.specs.Tests.{parts_test}
use Rattle.valid.specs.Meaning.{memory_of, Lent}
use Rattle.valid.specs.Tested.{SizesTested, ValidTested}
use Rattle.valid.proofs.Whole.{whole}

-- ---- the right sizes

module _ (ts ds : List ℕ) (hs : List Handle) (cs ps : List ℕ) where
  pub fits : valid (memory_of ts ds hs cs ps) ≡ true → sized (memory_of ts ds hs cs ps) ≡ true
  unfolding valid
  fits v = search (and_l, and_r)

  unsized : sized (memory_of ts ds hs cs ps) ≡ false → valid (memory_of ts ds hs cs ps) ≡ false
  unfolding valid
  unsized e = rw e

  module _ (f : sized (memory_of ts ds hs cs ps) ≡ true) where
    pub sizes_of : Lent ts ds cs ps
    unfolding sized
    sizes_of = record {
      tokens = eqb-true (length ts) (token_slots * token_words) (search (and_l, and_r));
      dacls = eqb-true (length ds) (token_slots * max_dacl) (search (and_l, and_r));
      control = eqb-true (length cs) control_words (search (and_l, and_r));
      pending = eqb-true (length ps) (station_count * pending_bytes) (search (and_l, and_r));
    }

    pub count_of : length hs ≡ handle_slots
    unfolding sized
    count_of = sym (length-map hs handle_of) ∙ eqb-true (length (map handle_of hs)) handle_slots (search (and_l, and_r))

-- ---- their test

pub sizes_tested : (tokens dacls count control pending : ℕ)
    → SizesTested tokens dacls count control pending
    (eqb tokens (token_slots * token_words) && eqb dacls (token_slots * max_dacl) && eqb count handle_slots && eqb control control_words && eqb pending (station_count * pending_bytes))
unfolding sized
sizes_tested tokens dacls count control pending = record { sizes = λ ts ds cs ps hs a b c d e. cc (length-map hs handle_of) }

module _ (count : ℕ) (ts ds cs ps : List ℕ) (b : Bool) (t : SizesTested (length ts) (length ds) count (length cs) (length ps) b) where
  abbrev pub sized_with : List Handle → Bool
  sized_with hs = sized (memory_of ts ds hs cs ps)

  pub sizes_wrong : not b ≡ true → (hs : List Handle) → length hs ≡ count → sized_with hs ≡ false
  sizes_wrong f hs l = sym (t.sizes ts ds cs ps hs refl refl l refl refl) ∙ not-true b f

  module _ (f : not b ≡ false) where
    pub sizes_right : (hs : List Handle) → length hs ≡ count → sized_with hs ≡ true
    sizes_right hs l = sym (t.sizes ts ds cs ps hs refl refl l refl refl) ∙ not-false b f

    -- of some list, as of any
    some : List Handle
    some = replicate count none

    some_long : length some ≡ count
    unfolding some
    some_long = length-replicate count none

    pub right_lent : Lent ts ds cs ps
    right_lent = sizes_of ts ds some cs ps (sizes_right some some_long)

    pub right_count : count ≡ handle_slots
    right_count = sym some_long ∙ count_of ts ds some cs ps (sizes_right some some_long)

-- ---- the test of all

-- a list of 32 handles is the list that was loaded
loaded_all : (hs : List Handle) → length hs ≡ handle_slots → loaded hs ≡ hs
loaded_all hs l = take_at hs (replicate handle_slots none) handle_slots l

module _ {count : ℕ} {ts ds cs ps : List ℕ} (items : List Handle) where
  wrong : ((hs : List Handle) → length hs ≡ count → sized (memory_of ts ds hs cs ps) ≡ false) → ValidTested count items ts ds cs ps false
  wrong f = record {
    means = λ hs l e. sym (unsized ts ds hs cs ps (f hs l));
    holds = λ e. absurd (not_both e refl);
    all = λ e. absurd (not_both e refl);
  }

  pub wrong_tokens : (length ts ≡ token_slots * token_words → ⊥) → ValidTested count items ts ds cs ps false
  unfolding sized
  wrong_tokens h = wrong (λ hs l. rw (ne_eqb (length ts) (token_slots * token_words) h))

  pub wrong_dacls : (length ds ≡ token_slots * max_dacl → ⊥) → ValidTested count items ts ds cs ps false
  unfolding sized
  wrong_dacls h = wrong (λ hs l. rw (ne_eqb (length ds) (token_slots * max_dacl) h, and-false))

  -- the code returns what it tests
  pub wrong_count : (count ≡ handle_slots → ⊥) → ValidTested count items ts ds cs ps (eqb count handle_slots)
  unfolding sized
  wrong_count h =
      rw (ne_eqb count handle_slots h) (wrong (λ hs l. rw (ne_eqb (length (map handle_of hs)) handle_slots (λ e. h (sym l ∙ sym (length-map hs handle_of) ∙ e)), and-false)))

  pub wrong_control : (length cs ≡ control_words → ⊥) → ValidTested count items ts ds cs ps false
  unfolding sized
  wrong_control h = wrong (λ hs l. rw (ne_eqb (length cs) control_words h, and-false))

  pub wrong_pending : (length ps ≡ station_count * pending_bytes → ⊥) → ValidTested count items ts ds cs ps false
  unfolding sized
  wrong_pending h = wrong (λ hs l. rw (ne_eqb (length ps) (station_count * pending_bytes) h, and-false))

  -- the parts as arrays
  pub valid_tested : {r : Bool} {ts' ds' cs' ps' : List ℕ} → IsWholeChunk ts ts' (token_slots * token_words) → IsWholeChunk ds ds' (token_slots * max_dacl)
      → IsWholeChunk cs cs' control_words → IsWholeChunk ps ps' (station_count * pending_bytes)
      → count ≡ handle_slots → length items ≡ handle_slots → next_token cs < 2 ^ 64 → r ≡ parts_test (memory_of ts' ds' items cs' ps') → ValidTested count items ts ds cs ps r
  valid_tested {r} t d c p n l kn e =
      let lent : Lent ts ds cs ps = record { tokens = t.long; dacls = d.long; control = c.long; pending = p.long } in
      let tested : r ≡ parts_test (memory_of ts ds items cs ps) = rw (← t.same, ← d.same, ← c.same, ← p.same) e in
      let q : r ≡ valid (memory_of ts ds items cs ps) = tested ∙ whole ts ds items cs ps lent l kn in
      let same : (hs : List Handle) → length hs ≡ count → loaded hs ≡ items → hs ≡ items = λ hs l e. sym (loaded_all hs (l ∙ n)) ∙ e in
      record {
        means = λ hs l e. q ∙ ap (λ is. valid (memory_of ts ds is cs ps)) (sym (same hs l e));
        holds = λ e. sym q ∙ e;
        all = λ e. same;
      }
