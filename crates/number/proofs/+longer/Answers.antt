-- `longer` meets its contract. Assumes nothing.
use Prim.Native.Nat.{ℕ, ◌<◌, ◌≤◌, ◌+◌, ◌/◌}
use native.Mathlib.Omega.{arith}
use mathlib.Core.Path.{◌≡◌, sym, ap, ◌∙◌}
use mathlib.Core.Logic.{⊎_elim}
use mathlib.Core.List.{List}
use lib.ListN.{length, get_or, drop}
use borrow.Author.Rules.{rules}
use Rattle.std.specs.Prelude.{Option, Some, None}
use Rattle.rules.specs.Number.{longer, read_number}
use Rattle.rules.proofs.Numbers.{below_or}
use Rattle.number.specs.declared.Number.{Number}
use Rattle.number.specs.Meaning.{NumberAt, LongerAt, Joined}
use Rattle.number.proofs.Reading.{longer_large, longer_narrow, read_none, read_large, read_one, read_longer}
use Rattle.number.proofs.+longer.Goals as goal

module _ (s : List ℕ) (at limit b : ℕ) where
  narrow : limit < 128 → LongerAt s at limit b None
  narrow k = record { means = sym (longer_narrow limit b (read_number (limit / 128) (drop at s)) k); bounds = tt }

  at_end : length s ≤ at → LongerAt s at limit b None
  unfolding longer
  at_end h = record { means = ap (longer limit b) (read_none s at (limit / 128) h).means; bounds = tt }

  -- the byte at the place is d
  module _ (d : ℕ) (here : at < length s) (e : d ≡ get_or s at 0) where
    -- the last one
    last : (r : Option Number) → d < 128 → Joined b d (at + 1) limit r → LongerAt s at limit b r
    unfolding longer
    last r l j = record {
      means = j.means s ∙ ⊎_elim
          (λ k. ap (longer limit b) (read_one s at (limit / 128) d here e l (omega arith)).means)
          (λ k. longer_large limit b d (drop (at + 1) s) (omega arith) ∙ ap (longer limit b) (read_large s at (limit / 128) d here e l (omega arith)).means)
          (below_or d (limit / 128 + 1));
      bounds = j.bounds (omega arith) (omega arith);
    }

    -- before what the call read
    module _ (l : 128 ≤ d) where
      after_bad : LongerAt s (at + 1) (limit / 128) d None → LongerAt s at limit b None
      unfolding longer
      after_bad f = record { means = ap (longer limit b) (read_longer s at (limit / 128) d here e None l f).means; bounds = tt }

      after_more : (n : Number) → LongerAt s (at + 1) (limit / 128) d (Some n) → (x : Option Number) → Joined b n.value n.next limit x → LongerAt s at limit b x
      after_more n f x j =
          let rest : NumberAt s at (limit / 128) (Some n) = read_longer s at (limit / 128) d here e (Some n) l f in
          record { means = j.means s ∙ ap (longer limit b) rest.means; bounds = j.bounds rest.bounds.0 rest.bounds.1 }

pub returns-then-limit-lt128 : goal.returns-then-limit-lt128
returns-then-limit-lt128 t c = search (rules, narrow)

pub returns-in_err-get : goal.returns-in_err-get
returns-in_err-get t c = search (rules, at_end)

pub returns-then-d-lt128 : goal.returns-then-d-lt128
returns-then-d-lt128 t c = search (rules, last)

pub returns-in_err-rest : goal.returns-in_err-rest
returns-in_err-rest t c = search (rules, after_bad)

pub returns : goal.returns
returns t c = after_more _ _ _ _ _ (search rules) (search rules) (omega arith) c.in_ok-rest.rest c.in_ok-rest.ensures _ c.joined-2.ensures
