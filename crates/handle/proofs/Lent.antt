-- The lent list: the steps of the loop of list::load, by numbers and lists alone. Assumes nothing.
use mathlib.Core.Path.{◌≡◌, refl, sym, ap, ◌∙◌}
use mathlib.Core.List.{List, [], ◌∷◌, ◌++◌}
use Prim.Native.Nat.{ℕ, zero, suc, ◌+◌, ◌≤◌, ◌<◌}
use native.Mathlib.Numerals.{add-one}
use native.Mathlib.Omega.{arith}
use lib.Dec.{leb}
use mathlib.Core.Bool.{Bool, true, false}
use borrow.Author.Tests.{leb-true, leb-false}
use Rattle.std.specs.Prelude.{min}
use lib.ListN.{length, get_or, take, set, replicate, length-replicate}
use lib.Seq.{take_all, take-suc, length-take-le}
use Rattle.rules.specs.State.{handle_slots}
use Rattle.handle.specs.declared.Handle.{Handle}
use Rattle.handle.specs.Meaning.{none}
use Rattle.handle.specs.Loaded.{loaded}

-- ---- load: the first i records of the list are in place

module _ {A : Type 0} (z : A) where
  padding_taken : (n k : ℕ) → n ≤ k → take n (replicate k z) ≡ take n (z ∷ replicate k z)
  padding_taken zero k l = refl
  padding_taken (suc n) zero l = absurd (omega arith)
  padding_taken (suc n) (suc k) l = ap (λ (ys : List A). z ∷ ys) (padding_taken n k (omega arith))

  -- one more record in front of the padding
  padded_more : (n k : ℕ) (xs : List A) (y : A) → n ≤ length xs + k → set (take n (xs ++ replicate k z)) (length xs) y ≡ take n ((xs ++ y ∷ []) ++ replicate k z)
  padded_more zero k xs y l = refl
  padded_more (suc n) zero [] y l = absurd (omega arith)
  padded_more (suc n) (suc k) [] y l = ap (λ (ys : List A). y ∷ ys) (padding_taken n k (omega arith))
  padded_more (suc n) k (x ∷ xs) y l = ap (λ (ys : List A). x ∷ ys) (padded_more n k xs y (omega arith))

-- what is cut behind the first n does not matter to them
cut_late : {A : Type 0} (zs : List A) (n i : ℕ) (ys : List A) → n ≤ i → i ≤ length ys → take n (take i ys ++ zs) ≡ take n (ys ++ zs)
cut_late zs zero i ys l m = refl
cut_late zs (suc n) zero ys l m = absurd (omega arith)
cut_late zs (suc n) (suc i) [] l m = absurd (omega arith)
cut_late zs (suc n) (suc i) (y ∷ ys) l m = ap (λ (hs : List _). y ∷ hs) (cut_late zs n i ys (omega arith) (omega arith))

module _ (ys : List Handle) where
  abbrev pub Loads : ℕ → List Handle → Type 0
  Loads i items = items ≡ loaded (take i ys)

  pub loads_none : {items : List Handle} → items ≡ replicate handle_slots none → Loads 0 items
  loads_none e = e ∙ sym (take_all handle_slots (replicate handle_slots none) (omega (arith, length-replicate handle_slots none)))

  pub loads_more : {i : ℕ} {items next : List Handle} → Loads i items → i < length ys → next ≡ set items i (get_or ys i none) → Loads (i + 1) next
  loads_more {i} {items} p l e =
      let k : length (take i ys) ≡ i = length-take-le i ys (omega arith) in
      e
      ∙ ap (λ (hs : List Handle). set hs i (get_or ys i none)) p
      ∙ ap (λ (j : ℕ). set (loaded (take i ys)) j (get_or ys i none)) (sym k)
      ∙ padded_more none handle_slots handle_slots (take i ys) (get_or ys i none) (omega arith)
      ∙ ap loaded (sym (take-suc ys i none l))
      ∙ ap (λ (j : ℕ). loaded (take j ys)) (sym (add-one i))

-- what is behind the first 32 records is not loaded
loaded_front : (ys : List Handle) (n : ℕ) → n ≡ min (length ys) handle_slots → loaded (take n ys) ≡ loaded ys
loaded_front ys n e = by (leb handle_slots n) refl
  where
    by : (b : Bool) → leb handle_slots n ≡ b → loaded (take n ys) ≡ loaded ys
    by true h = cut_late (replicate handle_slots none) handle_slots n ys (leb-true handle_slots n h) (omega arith)
    by false h = ap loaded (take_all n ys (omega (arith, leb-false handle_slots n h)))

pub loads_done : (ys : List Handle) {n i : ℕ} {items : List Handle} → Loads (take n ys) i items → length (take n ys) ≤ i → n ≡ min (length ys) handle_slots → items ≡ loaded ys
loads_done ys {n} {i} p l e = p ∙ ap loaded (take_all i (take n ys) l) ∙ loaded_front ys n e
