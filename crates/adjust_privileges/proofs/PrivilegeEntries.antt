-- Request 5's entries: one of them, a pass over all, and what the rule says of them. Assumes nothing.
use Prim.Native.Nat.{ℕ, ◌<◌}
use native.Mathlib.Omega.{arith}
use mathlib.Core.Path.{◌≡◌, refl, sym, ap, ◌∙◌}
use mathlib.Core.Bool.{Bool, true, false, not, ◌||◌}
use mathlib.Core.List.{List}
use lib.Bits.{bit_and}
use lib.Dec.{leb}
use borrow.Author.Tests.{leb-true}
use Rattle.std.specs.Prelude.{if◌then◌else◌}
use Rattle.rules.specs.Number.{Read, got, bad}
use Rattle.rules.specs.Entry.{Entry, valid_entries, apply_all}
use Rattle.rules.specs.Privileges.{Privileges, exists, reset}
use Rattle.rules.specs.AdjustPrivileges.{is_reset, valid_entry, applied, adjusted, named, previous}
use Rattle.rules.specs.Request.{times, entry}
use Rattle.rules.proofs.Logic.{and_l, and_r}
use Rattle.body.specs.Entries.{entry_of, is_just, Progress, going, stopped, passed}
use Rattle.body.proofs.Passes.{whole, none_whole, some_whole}
use Rattle.adjust_privileges.specs.PrivilegeEntries.{Outcome, done, refused, judged}

-- ---- one entry

-- a good one is below 64
pub small : (p : Privileges) (v n : Bool) (k a : ℕ) → v ≡ valid_entry p (entry_of k a) → (not v || n) ≡ false → k < 64
unfolding valid_entry exists
small p true n k a e h =
    let l = leb-true k 36 (and_r (leb 2 k) (leb k 36) (and_l (exists k) _ (sym e))) in
    omega (arith, l)
small p false n k a e h = cc

-- ---- all of them

module _ (p : Privileges) where
  reset_judged : (r : Read (List Entry)) → true ≡ is_just 0 0x80000000 r → done (reset p) p.present p.enabled ≡ judged p r
  unfolding judged is_just is_reset adjusted previous
  reset_judged (got es later) h = rw (sym h)
  reset_judged bad h = cc

  -- what becomes of a pass
  abbrev finished : Progress Privileges → Outcome
  finished (going q w) = done q (bit_and p.present w) (bit_and p.enabled w)
  finished stopped = refused

  finished_if : (b : Bool) (q : Privileges) (w : ℕ) → (if b then done q (bit_and p.present w) (bit_and p.enabled w) else refused) ≡ finished (if b then going q w else stopped)
  finished_if true q w = refl
  finished_if false q w = refl

  whole_judged : (r : Read (List Entry)) → false ≡ is_just 0 0x80000000 r → finished (whole (valid_entry p) applied p r) ≡ judged p r
  unfolding judged is_just is_reset adjusted previous
  whole_judged (got es later) h =
      sym (finished_if (valid_entries (valid_entry p) es) (apply_all applied es p) (named es)) ∙ rw (sym h)
  whole_judged bad h = refl

  -- j says that the entries are a reset
  module _ (n : ℕ) (bytes : List ℕ) {j : Bool} (h : j ≡ is_just 0 0x80000000 (times n entry bytes)) where
    pub was_reset : j ≡ true → {q : Privileges} → q ≡ reset p → done q p.present p.enabled ≡ judged p (times n entry bytes)
    was_reset t e = ap (λ (q : Privileges). done q p.present p.enabled) e ∙ reset_judged (times n entry bytes) (sym t ∙ h)

    pub none_given : j ≡ false → n ≡ 0 → refused ≡ judged p (times n entry bytes)
    none_given f z = ap finished (none_whole (valid_entry p) applied p n bytes z) ∙ whole_judged (times n entry bytes) (sym f ∙ h)

    -- g is what the pass made
    was_passed : j ≡ false → (n ≡ 0 → ⊥) → (g : Progress Privileges) → g ≡ passed (valid_entry p) applied p (times n entry bytes) → finished g ≡ judged p (times n entry bytes)
    was_passed f z g e = ap finished (e ∙ some_whole (valid_entry p) applied p n bytes z) ∙ whole_judged (times n entry bytes) (sym f ∙ h)

    pub was_stopped : j ≡ false → (n ≡ 0 → ⊥) → stopped ≡ passed (valid_entry p) applied p (times n entry bytes) → refused ≡ judged p (times n entry bytes)
    was_stopped f z e = was_passed f z stopped e

    pub was_made : j ≡ false → (n ≡ 0 → ⊥) → {q : Privileges} {w : ℕ} → going q w ≡ passed (valid_entry p) applied p (times n entry bytes)
        → done q (bit_and p.present w) (bit_and p.enabled w) ≡ judged p (times n entry bytes)
    was_made f z {q} {w} e = was_passed f z (going q w) e

pub ruleset judging = (was_reset, none_given, was_stopped, was_made)
