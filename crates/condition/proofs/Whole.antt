-- What is told of a condition that all bytes are. Assumes nothing.
use Rattle.std.proofs.Common.{ℕ, true, ◌≡◌, refl, List, [], ◌∷◌}
use Rattle.std.specs.Prelude.{None}
use Rattle.std.specs.Bool.{then_some}
use Rattle.rules.specs.Basic.{is_empty}
use Rattle.rules.specs.Number.{Read, got, bad}
use Rattle.rules.specs.Token.{Token}
use Rattle.rules.specs.Condition.{Condition, max_depth}
use Rattle.rules.specs.Request.{follow, end, condition}
use Rattle.condition.specs.declared.Told.{Told}
use Rattle.condition.specs.Told.{outcome, tell, read_whole, verdict_of}

module _ (t : Token) (bytes : List ℕ) where
  pub whole_bad : bad ≡ tell true (outcome t) (condition max_depth bytes) → None ≡ verdict_of t (read_whole bytes)
  unfolding tell follow verdict_of read_whole
  whole_bad e = by (condition max_depth bytes) e
    where
      by : (r : Read Condition) → bad ≡ tell true (outcome t) r → None ≡ verdict_of t (follow r end)
      by bad d = refl
      by (got c later) d = cc

  pub whole_told : (x : Told) (later : List ℕ) → got x later ≡ tell true (outcome t) (condition max_depth bytes) → then_some (is_empty later) x ≡ verdict_of t (read_whole bytes)
  unfolding tell outcome follow end is_empty verdict_of read_whole
  whole_told x later e = by (condition max_depth bytes) e
    where
      by : (r : Read Condition) → got x later ≡ tell true (outcome t) r → then_some (is_empty later) x ≡ verdict_of t (follow r end)
      by bad d = cc
      by (got c []) d = cc
      by (got c (b ∷ after)) d = cc

pub ruleset whole = (whole_bad, whole_told)
