-- `skip` meets its contract. Assumes nothing.
use Prim.Native.Nat.{ℕ, ◌+◌, ◌-◌, ◌≤◌, ◌<◌}
use native.Mathlib.Omega.{arith}
use mathlib.Core.Path.{◌≡◌, ap, ◌∙◌}
use mathlib.Core.List.{List}
use lib.ListN.{drop}
use borrow.Author.Rules.{rules}
use Rattle.std.specs.Prelude.{Option, Some, None}
use Rattle.rules.specs.Number.{read_number}
use Rattle.rules.specs.Request.{times}
use Rattle.number.specs.declared.Number.{Number}
use Rattle.number.specs.Rest.{after}
use Rattle.number.specs.Meaning.{NumberAt}
use Rattle.number.proofs.Reading.{times_none, times_bad, times_more}
use Rattle.number.proofs.skip.Goals as goal

-- the three ways on: i numbers are passed, up to the place, and z is what is left after all
module _ (s : List ℕ) (at count i limit : ℕ) (z : Option (List ℕ)) (inv : after (times (count - i) (read_number limit) (drop at s)) ≡ z) where
  ends : count ≤ i → Some (drop at s) ≡ z
  ends h = times_none (read_number limit) (count - i) (drop at s) (omega arith) ∙ inv

  ends_bad : i < count → NumberAt s at limit None → None ≡ z
  ends_bad h f = times_bad (read_number limit) (count - i) (drop at s) (omega arith) f.means ∙ inv

  goes_on : i < count → (n : Number) → NumberAt s at limit (Some n) → after (times (count - (i + 1)) (read_number limit) (drop n.next s)) ≡ z
  goes_on h n f =
      ap (λ (k : ℕ). after (times k (read_number limit) (drop n.next s))) {x = count - (i + 1)} {y = count - i - 1} (omega arith)
      ∙ times_more (read_number limit) (count - i) (drop at s) (drop n.next s) n.value (omega arith) f.means
      ∙ inv

pub returns-in_err-at : goal.returns-in_err-at
returns-in_err-at c = search (rules, ends_bad)

pub loop-preserved : goal.loop-preserved
loop-preserved c = (goes_on _ _ _ _ _ _ c.loop.invariant.0 (omega arith) c.in_ok-at.field-0 c.in_ok-at.ensures, omega (arith, c.in_ok-at.ensures.bounds), omega (arith, c.in_ok-at.ensures.bounds))

pub returns : goal.returns
returns c = search (rules, ends)
