-- `size` meets its contract. Assumes nothing.
use Prim.Native.Nat.{ℕ, ◌<◌, ◌≤◌, ◌+◌, ◌/◌, ◌^◌}
use native.Mathlib.Omega.{arith}
use mathlib.Core.Path.{◌≡◌, sym}
use lib.ListN.{length}
use borrow.Author.Rules.{rules}
use Rattle.rules.specs.Number.{encode}
use Rattle.rules.proofs.Numbers.{length_one, length_more, encode_width}
use Rattle.number.proofs.+size.Goals as goal

one : (n : ℕ) → n < 128 → 1 ≡ length (encode n)
one n l = sym (length_one n l)

module _ (n r : ℕ) (l : 128 ≤ n) (e : r ≡ length (encode (n / 128))) where
  more : r + 1 ≡ length (encode n)
  more = omega (arith, length_more n l)

  small : n < 2 ^ 64 → r + 1 ≤ 10
  small h = omega (arith, length_more n l, encode_width 64 9 n (omega arith) h)

pub returns-then-n-lt128 : goal.returns-then-n-lt128
returns-then-n-lt128 t c = search (rules, one)

pub returns-else-n-lt128 : goal.returns-else-n-lt128
returns-else-n-lt128 t c = search (rules, more, small)
