-- `Reader::is_ended` meets its contract. Assumes nothing.
use Prim.Native.Nat.{ℕ}
use mathlib.Core.Path.{◌≡◌}
use mathlib.Core.Logic.{⊎_elim}
use mathlib.Core.List.{List}
use lib.Dec.{leb}
use lib.ListN.{length, drop, drop_of_length-le}
use lib.Seq.{drop-cons}
use borrow.Author.Rules.{rules}
use borrow.Author.Tests.{le-leb, lt-leb}
use Rattle.rules.specs.Basic.{is_empty}
use Rattle.rules.proofs.Numbers.{below_or}
use Rattle.number.proofs.reader.Reader.is_ended.Goals as goal

ends : (s : List ℕ) (at : ℕ) → leb (length s) at ≡ is_empty (drop at s)
unfolding is_empty
ends s at =
    ⊎_elim (λ l. rw (lt-leb (length s) at l, drop-cons s at 0 l)) (λ l. rw (le-leb (length s) at l, drop_of_length-le s l)) (below_or at (length s))

pub returns : goal.returns
returns c = search (rules, ends)
