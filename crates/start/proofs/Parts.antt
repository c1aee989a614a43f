-- Valid memory and the parts that hold a state. Assumes nothing.
use Prim.Native.Nat.{ℕ, ◌*◌}
use mathlib.Core.Path.{◌≡◌, sym, ap, subst}
use mathlib.Core.Bool.{Bool, true, false, not}
use mathlib.Core.List.{List}
use borrow.Author.Tests.{not-false}
use lib.ListN.{length}
use Rattle.table.specs.Sections.{Sectioned}
use Rattle.rules.specs.State.{State, station_count}
use Rattle.rules.specs.Memory.{Memory, pending_bytes, control_sizes, control_words, sections, control, encode, decode, valid}
use Rattle.rules.proofs.Memory.{valid_written, valid_state}
use Rattle.rules.proofs.Control.{control_sections}
use Rattle.handle.specs.declared.Handle.{Handle}
use Rattle.state.specs.ReleaseFacts.{PartsIn}
use Rattle.valid.specs.Meaning as Sizes
use Rattle.valid.specs.Meaning.{memory_of}
use Rattle.valid.specs.Tested.{ValidTested}
use Rattle.valid.proofs.Sizes.{fits, sizes_of}
use Rattle.start.specs.Streams.{PendingIn}

-- ---- the parts, and the memory that they make up

module _ (ts ds : List ℕ) (hs : List Handle) (cs ps : List ℕ) where
  abbrev memory : Memory
  memory = memory_of ts ds hs cs ps

  pub written_as : (τ : State) → PartsIn τ ts ds hs cs → PendingIn τ ps → memory ≡ encode τ
  unfolding encode control
  written_as τ p q = cc (p.tokens.words, p.tokens.bytes, p.handles.records, p.control.words.words, q.rows)

  module _ (v : valid memory ≡ true) where
    back : encode (decode memory) ≡ memory
    back = valid_written memory v

    pub held_parts : PartsIn (decode memory) ts ds hs cs
    unfolding encode
    held_parts = record {
      handles = record { records = sym (ap (λ m. m.handles) back) };
      control = record {
        words = subst (λ (ws : List ℕ). Sectioned control_sizes (sections (decode memory)) ws) (ap (λ m. m.control) back) (control_sections (decode memory) (valid_state memory v));
      };
      tokens = record { words = sym (ap (λ m. m.tokens) back); bytes = sym (ap (λ m. m.dacls) back) };
    }

    pub held_pending : PendingIn (decode memory) ps
    unfolding encode
    held_pending = record { rows = sym (ap (λ m. m.pending) back) }

-- ---- the sizes of valid memory

pub valid_lent : {ts ds cs ps : List ℕ} (hs : List Handle) → valid (memory_of ts ds hs cs ps) ≡ true → Sizes.Lent ts ds cs ps
valid_lent {ts} {ds} {cs} {ps} hs v = sizes_of ts ds hs cs ps (fits ts ds hs cs ps v)

-- ---- after the test of all lent memory, made with `if !b`

module _ {count : ℕ} {items : List Handle} {ts ds cs ps : List ℕ} {b : Bool} (t : ValidTested count items ts ds cs ps b) (f : not b ≡ false) where
  pub tested_valid : valid (memory_of ts ds items cs ps) ≡ true
  tested_valid = t.holds (not-false b f)

  pub tested_lent : Sizes.Lent ts ds cs ps
  tested_lent = valid_lent items tested_valid

  pub control_long : length cs ≡ control_words
  control_long = tested_lent.control

  pub pending_long : length ps ≡ station_count * pending_bytes
  pending_long = tested_lent.pending
