-- A loop that skips one thing after the other, whatever reads it: what is left to skip leaves what the whole leaves. Assumes nothing.
use Prim.Native.Nat.{ℕ, ◌+◌, ◌-◌, ◌≤◌, ◌<◌}
use native.Mathlib.Omega.{arith}
use mathlib.Core.Path.{◌≡◌, refl, ap, ◌∙◌}
use mathlib.Core.List.{List}
use Rattle.std.specs.Prelude.{Option, Some, None}
use Rattle.rules.specs.Number.{Read, got, bad}
use Rattle.rules.specs.Request as rules
use Rattle.rules.specs.Request.{times}
use Rattle.number.specs.Rest.{after}
use Rattle.number.specs.Reader.{rest_of, left_of, Onward, PassedOn}
use Rattle.number.specs.declared.reader.Reader.{Reader}
use Rattle.number.proofs.Reading.{times_none, times_bad, times_more}
use Rattle.body.proofs.Lists.{further}

-- of count things from one reader on i are skipped, up to r
pub record Skipping {A : Type 0} (p : rules.Reader A) (start : Reader) (count : ℕ) (r : Reader) (i : ℕ) : Type 0 where
  pub means : after (times (count - i) p (rest_of r)) ≡ after (times count p (rest_of start))
  pub onward : Onward start r

module _ {A : Type 0} (p : rules.Reader A) where
  -- one thing was read as x, and l is left
  after_one : (n : ℕ) (bytes l : List ℕ) (x : Read A) → 0 < n → x ≡ p bytes → Some l ≡ after x → after (times (n - 1) p l) ≡ after (times n p bytes)
  unfolding after
  after_one n bytes l bad h e d = cc
  after_one n bytes l (got a later) h e d =
      let k : l ≡ later = cc in
      ap (λ (y : List ℕ). after (times (n - 1) p y)) k ∙ times_more p n bytes later a h e

  after_none : (n : ℕ) (bytes : List ℕ) (x : Read A) → 0 < n → x ≡ p bytes → None ≡ after x → None ≡ after (times n p bytes)
  unfolding after
  after_none n bytes bad h e d = times_bad p n bytes h e
  after_none n bytes (got a later) h e d = cc

module _ {A : Type 0} (p : rules.Reader A) (start : Reader) (count : ℕ) where
  pub skip_starts : Skipping p start count start 0
  skip_starts = record {
    means = ap (λ (k : ℕ). after (times k p (rest_of start))) {x = count - 0} {y = count} (omega arith);
    onward = record { body = refl; forward = omega arith; inside = omega arith };
  }

  module _ (r : Reader) (i : ℕ) (inv : Skipping p start count r i) where
    pub skip_next : i < count → (r' : Reader) → PassedOn p r r' (Some tt) → Skipping p start count r' (i + 1)
    skip_next h r' o = record {
      means =
          ap (λ (k : ℕ). after (times k p (rest_of r'))) {x = count - (i + 1)} {y = count - i - 1} (omega arith)
          ∙ after_one p (count - i) (rest_of r) (rest_of r') (p (rest_of r)) (omega arith) refl o.means
          ∙ inv.means;
      onward = further inv.onward o.onward;
    }

    pub skip_lost : i < count → (r' : Reader) → PassedOn p r r' None → (u : Option (Unit {0})) → u ≡ None → PassedOn (times count p) start r' u
    skip_lost h r' o u e = record {
      means = ap (left_of r') e ∙ after_none p (count - i) (rest_of r) (p (rest_of r)) (omega arith) refl o.means ∙ inv.means;
      onward = further inv.onward o.onward;
    }

    pub skip_ends : count ≤ i → PassedOn (times count p) start r (Some tt)
    skip_ends h = record { means = times_none p (count - i) (rest_of r) (omega arith) ∙ inv.means; onward = inv.onward }

pub ruleset skips = (skip_next, skip_lost, skip_ends)
