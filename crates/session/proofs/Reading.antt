-- Whether the bytes from a place on may be the first of a number. Assumes nothing.
use Prim.Native.Nat.{ℕ, ◌-◌, ◌≤◌, ◌<◌}
use native.Mathlib.Omega.{arith}
use mathlib.Core.Path.{◌≡◌, refl, sym, ◌∙◌}
use mathlib.Core.Bool.{Bool, ◌&&◌}
use mathlib.Core.List.{List}
use lib.ListN.{length, drop, length-drop}
use lib.Dec.{leb, ltb}
use borrow.Author.Tests.{lt-ltb, le-ltb}
use Rattle.std.specs.List.{list_all}
use Rattle.std.proofs.lemmas.List.Recursion.{same_from_clauses}
use Rattle.rules.specs.Basic.{all}
use Rattle.session.specs.Program.{number_bytes, is_cut}

is_list_all : (test : ℕ → Bool) (xs : List ℕ) → all test xs ≡ list_all test xs
unfolding all
is_list_all test xs = same_from_clauses (all test) (list_all test) (λ (x : ℕ) (r : Bool). test x && r) refl (λ x xs. refl) (λ x xs. refl) xs

module _ (s : List ℕ) (from n : ℕ) (e : n ≡ length s - from) where
  pub too_long : number_bytes ≤ n → ltb n number_bytes ≡ is_cut (drop from s)
  unfolding is_cut
  too_long h = simp (le-ltb n number_bytes h, le-ltb (length (drop from s)) number_bytes (omega (arith, length-drop from s)))

  pub begun : n < number_bytes → (r : Bool) → r ≡ list_all (leb 128) (drop from s) → r ≡ is_cut (drop from s)
  unfolding is_cut
  begun h r g = simp (lt-ltb (length (drop from s)) number_bytes (omega (arith, length-drop from s))) (g ∙ sym (is_list_all (leb 128) (drop from s)))
