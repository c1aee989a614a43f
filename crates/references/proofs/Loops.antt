-- Loops that keep elements of a list and are not left early: what is left to do gives what the whole gives. Assumes nothing.
use mathlib.Core.Path.{◌≡◌, refl, sym, ap, ◌∙◌}
use mathlib.Core.Bool.{Bool, true, false, not, ◌&&◌}
use mathlib.Core.List.{List, [], ◌∷◌, ◌++◌, append_assoc, append-nil}
use Prim.Native.Nat.{ℕ, suc, ◌+◌, ◌≤◌, ◌<◌}
use native.Mathlib.Numerals.{add-one}
use native.Mathlib.Omega.{arith}
use lib.Dec.{eqb}
use lib.ListN.{length, take, drop, get_or, set, length-set, drop_of_length-le}
use lib.Seq.{drop-cons, take-set-le, take-suc-set}
use Rattle.std.specs.Prelude.{if◌then◌else◌}
use Rattle.std.specs.Int.{from_bool}
use Rattle.rules.specs.Basic.{all}
use Rattle.lists.proofs.Loops.{TestedArray, array_none, array_more, array_done}
use Rattle.references.specs.Tests.{kept, is_kept, Front}

-- ---- how many more are kept with x

pub counted : (x : ℕ) {r : ℕ} → r ≡ from_bool (not (eqb x 0)) → r ≡ is_kept x
counted x e = by (eqb x 0) e
  where
    by : (b : Bool) {r : ℕ} → r ≡ from_bool (not b) → r ≡ (if b then 0 else 1)
    by true e = e
    by false e = e

-- ---- elements are kept behind the first elements of an array, which are pre

module _ {A : Type 0} (k f : A → ℕ) (src : List A) (pre : List ℕ) where
  -- after i elements, the array's front has n
  pub record Keeping (size room : ℕ) (items : List ℕ) (n i : ℕ) : Type 0 where
    pub within : i ≤ size
    pub source : length src ≡ size
    pub enough : length pre + size ≤ room
    pub long : length items ≡ room
    pub few : n ≤ length pre + i
    pub rest : take n items ++ kept k f (drop i src) ≡ pre ++ kept k f src

  pub keeping_none : (size room n : ℕ) (items : List ℕ) → length src ≡ size → length pre + size ≤ room → length items ≡ room → n ≤ length pre → take n items ≡ pre
      → Keeping size room items n 0
  keeping_none size room n items e r l w p = record { within = omega arith; source = e; enough = r; long = l; few = omega arith; rest = ap (λ xs. xs ++ kept k f src) p }

  pub keeping_more : {size room : ℕ} {items : List ℕ} {n i v j : ℕ} (d : A) → Keeping size room items n i → i < size → v ≡ f (get_or src i d) → j ≡ is_kept (k (get_or src i d))
      → Keeping size room (set items n v) (n + j) (i + 1)
  unfolding kept
  keeping_more {size} {room} {items} {n} {i} {v} {j} d t h ev ej = by (eqb (k a) 0) refl
    where
      a : A
      a = get_or src i d

      cut : kept k f (drop i src) ≡ (if eqb (k a) 0 then kept k f (drop (i + 1) src) else f a ∷ kept k f (drop (i + 1) src))
      cut = ap (kept k f) (drop-cons src i d (omega (arith, t.source))) ∙ ap (λ (m : ℕ). if eqb (k a) 0 then kept k f (drop m src) else f a ∷ kept k f (drop m src)) (sym (add-one i))

      by : (b : Bool) → eqb (k a) 0 ≡ b → Keeping size room (set items n v) (n + j) (i + 1)
      by true e =
          let z : n + j ≡ n = let q : j ≡ 0 = ej ∙ rw e in omega arith in
          record {
            within = omega arith;
            source = t.source;
            enough = t.enough;
            long = length-set items n v ∙ t.long;
            few = omega (arith, z, t.few);
            rest =
                ap (λ (m : ℕ). take m (set items n v) ++ kept k f (drop (i + 1) src)) z
                ∙ ap (λ l. l ++ kept k f (drop (i + 1) src)) (take-set-le n items n v (omega arith))
                ∙ ap (λ l. take n items ++ l) (sym (cut ∙ rw e))
                ∙ t.rest;
          }
      by false e =
          let z : n + j ≡ suc n = let q : j ≡ 1 = ej ∙ rw e in omega arith in
          record {
            within = omega arith;
            source = t.source;
            enough = t.enough;
            long = length-set items n v ∙ t.long;
            few = omega (arith, z, t.few);
            rest =
                ap (λ (m : ℕ). take m (set items n v) ++ kept k f (drop (i + 1) src)) z
                ∙ ap (λ l. l ++ kept k f (drop (i + 1) src)) (take-suc-set items n v (omega (arith, t.few, t.enough, t.long)))
                ∙ append_assoc (take n items) (v ∷ []) (kept k f (drop (i + 1) src))
                ∙ ap (λ x. take n items ++ (x ∷ kept k f (drop (i + 1) src))) ev
                ∙ ap (λ l. take n items ++ l) (sym (cut ∙ rw e))
                ∙ t.rest;
          }

  pub keeping_done : {size room : ℕ} {items : List ℕ} {n i : ℕ} → Keeping size room items n i → size ≤ i → Front room (pre ++ kept k f src) n items
  unfolding kept
  keeping_done {items = items} {n = n} {i = i} t h = record {
    room = record { fits = omega (arith, t.few, t.within, t.enough); long = t.long };
    front =
        sym (append-nil (take n items))
        ∙ ap (λ l. take n items ++ kept k f l) (sym (drop_of_length-le src {i = i} (omega (arith, t.source))))
        ∙ t.rest;
  }

-- the same of two numbers at once, where each element is tested too, and the second array has room for more
module _ {A : Type 0} (t : A → Bool) (k f g : A → ℕ) (d : A) (src : List A) where
  pub record Sorting (size room : ℕ) (ok : Bool) (fs gs : List ℕ) (n i : ℕ) : Type 0 where
    pub tested : TestedArray t d src size ok i
    pub first : Keeping k f src [] size size fs n i
    pub second : Keeping k g src [] size room gs n i

  pub sorting_none : (size room : ℕ) (fs gs : List ℕ) → length src ≡ size → size ≤ room → length fs ≡ size → length gs ≡ room → Sorting size room true fs gs 0 0
  sorting_none size room fs gs e r lf lg =
      record { tested = array_none t d src size e; first = keeping_none k f src [] size size 0 fs e (omega arith) lf (omega arith) refl; second = keeping_none k g src [] size room 0 gs e (omega arith) lg (omega arith) refl }

  pub sorting_more : {size room : ℕ} {ok r : Bool} {fs gs : List ℕ} {n i v w j : ℕ} {x : A} → Sorting size room ok fs gs n i → i < size
      → x ≡ get_or src i d → r ≡ t x → v ≡ f x → w ≡ g x → j ≡ is_kept (k x)
      → Sorting size room (ok && r) (set fs n v) (set gs n w) (n + j) (i + 1)
  sorting_more s h q er ev ew ej =
      let kept_or_not = ej ∙ ap (λ x. is_kept (k x)) q in
      record {
        tested = array_more t d src s.tested h (er ∙ ap t q);
        first = keeping_more k f src [] d s.first h (ev ∙ ap f q) kept_or_not;
        second = keeping_more k g src [] d s.second h (ew ∙ ap g q) kept_or_not;
      }

  pub sorting_tested : {size room : ℕ} {ok : Bool} {fs gs : List ℕ} {n i : ℕ} → Sorting size room ok fs gs n i → size ≤ i → ok ≡ all t src
  sorting_tested s h = array_done t d src s.tested h

  pub sorting_first : {size room : ℕ} {ok : Bool} {fs gs : List ℕ} {n i : ℕ} → Sorting size room ok fs gs n i → size ≤ i → Front size (kept k f src) n fs
  sorting_first s h = keeping_done k f src [] s.first h

  pub sorting_second : {size room : ℕ} {ok : Bool} {fs gs : List ℕ} {n i : ℕ} → Sorting size room ok fs gs n i → size ≤ i → Front room (kept k g src) n gs
  sorting_second s h = keeping_done k g src [] s.second h
