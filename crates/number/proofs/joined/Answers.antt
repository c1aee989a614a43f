-- `joined` meets its contract. Assumes nothing.
use Prim.Native.Nat.{ℕ, ◌+◌, ◌-◌, ◌*◌}
use mathlib.Core.Path.{◌≡◌}
use mathlib.Core.Bool.{Bool, true, false, ◌||◌}
use lib.Dec.{eqb, ltb}
use borrow.Author.Rules.{rules}
use borrow.Author.Tests.{ltb-false}
use Rattle.rules.specs.Number.{longer}
use Rattle.std.specs.Prelude.{Some, None}
use Rattle.number.specs.Meaning.{Joined}
use Rattle.number.proofs.joined.Goals as goal

neither : (x y : Bool) → (x || y) ≡ false → y ≡ false
neither true y h = cc
neither false y h = h

module _ (b n next limit : ℕ) where
  refused : (eqb n 0 || ltb limit (b - 128 + 128 * n)) ≡ true → Joined b n next limit None
  unfolding longer
  refused t = record { means = λ s. rw t; bounds = λ h k. tt }

  taken : (eqb n 0 || ltb limit (b - 128 + 128 * n)) ≡ false → Joined b n next limit (Some (record { value = b - 128 + 128 * n; next = next }))
  unfolding longer
  taken t = record {
    means = λ s. rw t;
    bounds = λ h k. (h, k, ltb-false limit (b - 128 + 128 * n) (neither (eqb n 0) (ltb limit (b - 128 + 128 * n)) t));
  }

pub returns-then-rest-limit : goal.returns-then-rest-limit
returns-then-rest-limit c = search (rules, refused)

pub returns : goal.returns
returns c = search (rules, taken)
