-- `Reader::bytes` meets its contract. Assumes nothing.
use Prim.Native.Nat.{ℕ, ◌+◌, ◌-◌, ◌≤◌, ◌<◌}
use native.Mathlib.Omega.{arith}
use mathlib.Core.Path.{◌≡◌, sym, ap, ◌∙◌}
use mathlib.Core.List.{List}
use lib.ListN.{length, drop, length-drop}
use lib.Seq.{drop-drop}
use borrow.Author.Rules.{rules}
use Rattle.std.specs.Prelude.{Some, None}
use Rattle.rules.specs.Request.{times, byte}
use Rattle.number.specs.Rest.{after}
use Rattle.number.proofs.Reading.{bytes_there, bytes_missing}
use Rattle.number.proofs.reader.Reader.bytes.Goals as goal

module _ (s : List ℕ) (at count left : ℕ) (e : left ≡ length s - at) where
  missing : left < count → None ≡ after (times count byte (drop at s))
  missing h = bytes_missing count (drop at s) (omega (arith, length-drop at s))

  there : count ≤ left → Some (drop (at + count) s) ≡ after (times count byte (drop at s))
  there h = ap Some (sym (drop-drop count at s)) ∙ bytes_there count (drop at s) (omega (arith, length-drop at s))

pub returns-then-left-count : goal.returns-then-left-count
returns-then-left-count c = search (rules, missing)

pub returns : goal.returns
returns c = search (rules, there)
