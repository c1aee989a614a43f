-- Slots by their index: where something is found, it is live, and where a slot is free, the lowest is within the table. Assumes nothing.
use Prim.Native.Nat.compare
use Prim.Native.Nat.{zero, suc, ◌<◌}
use native.Mathlib.Nat.{not-suc-le-zero}
use native.Mathlib.Omega.{arith}
use mathlib.Core.Path.{◌≡◌, refl, sym, ap, ◌∙◌}
use mathlib.Core.Bool.{Bool, true, false}
use mathlib.Core.Logic.{⊎_elim}
use mathlib.Core.List.{List, [], ◌∷◌}
use lib.Dec.{ltb}
use lib.ListN.{length, get_or}
use borrow.Author.Tests.{lt-ltb, le-ltb}
use Rattle.std.specs.Prelude.{if◌then◌else◌}
use Rattle.rules.specs.Table.{Slot, free, live, is_live, or_else, some_free, found}
use Rattle.rules.specs.Index.{free_index, found_index}
use Rattle.rules.proofs.Logic.{not_both, either}
use Rattle.rules.proofs.Index.{found_below}

module _ {A : Type 0} where
  pub some_free_lem : (ps : List (Slot A)) → some_free ps ≡ ltb (free_index ps) (length ps)
  unfolding some_free free_index
  some_free_lem [] = refl
  some_free_lem (free ∷ ps) = sym (lt-ltb 0 (suc (length ps)) (omega arith))
  some_free_lem (live a ∷ ps) = rw compare.suc-suc (some_free_lem ps)

  pub found_live : (f : A → Bool) (ps : List (Slot A)) → found_index f ps < length ps → is_live (found f ps) ≡ true
  unfolding found_index found is_live
  found_live f [] h = absurd (not-suc-le-zero h)
  found_live f (free ∷ ps) h = found_live f ps (omega arith)
  found_live f (live a ∷ ps) h = pick (f a) h (found_live f ps)
    where
      pick : (b : Bool) → (if b then zero else suc (found_index f ps)) < suc (length ps)
          → (found_index f ps < length ps → is_live (found f ps) ≡ true) → is_live (if b then live a else found f ps) ≡ true
      pick true h rest = refl
      pick false h rest = rest (omega arith)

  pub some_found : (f : A → Bool) (ps : List (Slot A)) → is_live (found f ps) ≡ ltb (found_index f ps) (length ps)
  some_found f ps =
      let i = found_index f ps in
      ⊎_elim (λ t. t ∙ sym (lt-ltb i (length ps) (found_below f ps t)))
      (λ t. let no : i < length ps → ⊥ = λ h. not_both (found_live f ps h) t in t ∙ sym (le-ltb i (length ps) (omega arith))) (either (is_live (found f ps)))

  -- what stands at the lowest free slot, or past the end
  pub free_at : (ps : List (Slot A)) → get_or ps (free_index ps) free ≡ free
  unfolding free_index
  free_at [] = refl
  free_at (free ∷ ps) = refl
  free_at (live a ∷ ps) = free_at ps

  -- a slot that is free or holds a, and is live
  pub live_or : (z : A) (b : Bool) {a : A} {p : Slot A} → p ≡ (if b then free else live a) → is_live p ≡ true → a ≡ or_else z p
  unfolding is_live or_else
  live_or z true e h = absurd (not_both h (ap is_live e))
  live_or z false e h = sym (ap (or_else z) e)
