-- Laws of slots by their index. Assumes nothing.
use Prim.Native.Nat.{zero, suc, ◌<◌}
use native.Mathlib.Omega.{arith}
use mathlib.Core.Path.{◌≡◌, refl, ap}
use mathlib.Core.Bool.{Bool, true, false}
use mathlib.Core.List.{List, [], ◌∷◌}
use lib.ListN.{length, get_or, set}
use Rattle.std.specs.Prelude.{if◌then◌else◌}
use Rattle.rules.specs.Table.{Slot, free, live, is_live, some_free, found, placed, exchanged}
use Rattle.rules.specs.Index.{free_index, found_index}
use Rattle.rules.proofs.Logic.{not_both}

module _ {A : Type 0} where
  pub placed_set : (a : A) (ps : List (Slot A)) → placed a ps ≡ set ps (free_index ps) (live a)
  unfolding placed free_index
  placed_set a [] = refl
  placed_set a (free ∷ ps) = refl
  placed_set a (live b ∷ ps) = ap (λ qs. live b ∷ qs) (placed_set a ps)

  pub free_below : (ps : List (Slot A)) → some_free ps ≡ true → free_index ps < length ps
  unfolding some_free free_index
  free_below [] h = absurd (not_both h refl)
  free_below (free ∷ ps) h = omega arith
  free_below (live a ∷ ps) h = omega (arith, free_below ps h)

  module _ (f : A → Bool) where
    pub found_below : (ps : List (Slot A)) → is_live (found f ps) ≡ true → found_index f ps < length ps
    unfolding is_live found found_index
    found_below [] h = absurd (not_both h refl)
    found_below (free ∷ ps) h = omega (arith, found_below ps h)
    found_below (live a ∷ ps) h = go (f a) h (found_below ps)
      where
        go : (b : Bool) → is_live (if b then live a else found f ps) ≡ true → (is_live (found f ps) ≡ true → found_index f ps < length ps) → (if b then zero else suc (found_index f ps)) < suc (length ps)
        go true h ih = omega arith
        go false h ih = omega (arith, ih h)

    pub found_at : (ps : List (Slot A)) → found f ps ≡ get_or ps (found_index f ps) free
    unfolding found found_index
    found_at [] = refl
    found_at (free ∷ ps) = found_at ps
    found_at (live a ∷ ps) = pick (f a) (found_at ps)
      where
        pick : (b : Bool) → found f ps ≡ get_or ps (found_index f ps) free → (if b then live a else found f ps) ≡ get_or (live a ∷ ps) (if b then zero else suc (found_index f ps)) free
        pick true e = refl
        pick false e = e

    pub exchanged_set : (p : Slot A) (ps : List (Slot A)) → exchanged f p ps ≡ set ps (found_index f ps) p
    unfolding exchanged found_index
    exchanged_set p [] = refl
    exchanged_set p (free ∷ ps) = ap (λ qs. free ∷ qs) (exchanged_set p ps)
    exchanged_set p (live a ∷ ps) = pick (f a) (exchanged_set p ps)
      where
        pick : (b : Bool) → exchanged f p ps ≡ set ps (found_index f ps) p → (if b then p ∷ ps else live a ∷ exchanged f p ps) ≡ set (live a ∷ ps) (if b then zero else suc (found_index f ps)) p
        pick true e = refl
        pick false e = ap (λ qs. live a ∷ qs) e
