-- `short` meets its contract. Assumes nothing.
use Prim.Native.Nat.{ℕ, zero, suc, ◌+◌, ◌-◌, ◌≤◌, ◌<◌}
use native.Mathlib.Omega.{arith}
use mathlib.Core.Path.{◌≡◌, sym, ap, ◌∙◌}
use mathlib.Core.Bool.{true}
use mathlib.Core.List.{List, [], ◌∷◌}
use lib.Bits.{bit_or}
use lib.Dec.{ltb}
use lib.ListN.{length, take, drop, get_or, length-drop}
use lib.Seq.{drop-drop, get_or-take}
use borrow.Author.Rules.{part_to_end}
use borrow.Author.Tests.{ltb-true}
use Rattle.std.specs.Prelude.{Some}
use Rattle.std.specs.List.{fold}
use Rattle.std.proofs.lemmas.Nat.{le_or_l, le_or_r}
use Rattle.number.specs.Meaning.{Passed}
use Rattle.number.proofs.Reading.{short_numbers}
use Rattle.number.proofs.short.Goals as goal

-- no byte, nor what the fold begins with, is above the bits of all
begins_below : (a : ℕ) (xs : List ℕ) → a ≤ fold bit_or a xs
begins_below a [] = omega arith
begins_below a (x ∷ xs) = omega (arith, begins_below (bit_or a x) xs, le_or_l a x)

each_below : (a : ℕ) (xs : List ℕ) (k : ℕ) → get_or xs k 0 ≤ fold bit_or a xs
each_below a [] k = omega arith
each_below a (x ∷ xs) zero = omega (arith, begins_below (bit_or a x) xs, le_or_r a x)
each_below a (x ∷ xs) (suc k) = each_below (bit_or a x) xs k

-- r are the bytes from the place on, and b the bits of the first count of them
module _ (s r : List ℕ) (from count limit b : ℕ) (here : from ≤ length s) (rest : r ≡ take (length s - from) (drop from s)) (enough : count ≤ length r) (e : b ≡ fold bit_or 0 (take count r)) where
  same : r ≡ drop from s
  same = rest ∙ part_to_end s from

  below : ltb b 128 ≡ true → (k : ℕ) → k < count → get_or (drop from s) k 0 < 128
  below t k l = rw (← same) (omega (arith, each_below 0 (take count r) k, get_or-take count r k 0 l, ltb-true b 128 t))

  all : 127 ≤ limit → ltb b 128 ≡ true → Passed s from count limit (Some (from + count))
  all w t = record {
    means = ap Some (sym (drop-drop count from s)) ∙ short_numbers limit count (drop from s) w (omega (arith, ap length same)) (below t);
    bounds = (omega arith, omega (arith, ap length same, length-drop from s));
  }

pub returns : goal.returns
returns c =
    let r = c.in-Some.ensures.lookup.0 in
    all c.args.s.now c.in-Some.rest.now c.args.from c.args.count c.args.limit c.bits.result r.0 r.2 (omega arith) c.bits.ensures (omega arith)
