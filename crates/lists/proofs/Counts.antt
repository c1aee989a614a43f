-- How often numbers stand in lists: a list is distinct where each stands in it once, and what that says of the references. Assumes nothing.
use mathlib.Core.Path.{◌≡◌, refl, ap, ◌∙◌}
use mathlib.Core.Bool.{Bool, true, false, not, ◌&&◌, ◌||◌}
use mathlib.Core.List.{List, [], ◌∷◌}
use Prim.Native.Nat.{ℕ, suc, ◌+◌, ◌≤◌}
use native.Mathlib.Omega.{arith}
use borrow.Author.Tests.{eq-eqb, ne_eqb, eqb-true, eqb-false, le-leb, lt-leb}
use lib.Dec.{eqb, leb}
use lib.ListN.{length}
use Rattle.std.specs.Prelude.{if◌then◌else◌}
use Rattle.rules.specs.Basic.{all, member, distinct}
use Rattle.rules.specs.Growth.{Mem, here, there}
use Rattle.rules.proofs.Logic.{and_l, and_r, not_i, all_mem, mem_all, member_mem, distinct_head, distinct_tail, distinct_cons}
use Rattle.lists.specs.Tests.{one, count, is_once, tally}
use Rattle.lists.proofs.Truth.{same_truth, eqb_flip}
use Rattle.lists.proofs.Loops.{Tested, tested_done}

one_same : (x y : ℕ) → x ≡ y → one x y ≡ 1
one_same x y e = rw (eq-eqb x y e)

one_other : (x y : ℕ) → (x ≡ y → ⊥) → one x y ≡ 0
one_other x y e = rw (ne_eqb x y e)

count_mem : {x : ℕ} {s : List ℕ} → Mem x s → 1 ≤ count x s
unfolding count
count_mem {x} (here {x = y} {xs = s} e) = omega (arith, one_same x y e)
count_mem {x} (there {x = y} {xs = s} m) = omega (arith, count_mem m)

pub count_none : (x : ℕ) (s : List ℕ) → eqb (count x s) 0 ≡ not (member x s)
unfolding count member
count_none x [] = refl
count_none x (y ∷ s) = by (eqb x y) (count_none x s)
  where
    by : (b : Bool) → eqb (count x s) 0 ≡ not (member x s) → eqb ((if◌then◌else◌ b 1 0) + count x s) 0 ≡ not (b || member x s)
    by true ih = ne_eqb (1 + count x s) 0 (λ h. omega arith)
    by false ih = ap (λ (k : ℕ). eqb k 0) {x = 0 + count x s} {y = count x s} (omega arith) ∙ ih

absent : (x : ℕ) (s : List ℕ) → (Mem x s → ⊥) → count x s ≡ 0
absent x s h = eqb-true (count x s) 0 (count_none x s ∙ not_i (member x s) (λ m. h (member_mem x s m)))

-- ---- each stands once

once : (s : List ℕ) → all (λ x. eqb (count x s) 1) s ≡ true → distinct s ≡ true
unfolding all count distinct
once [] h = refl
once (y ∷ s) h =
    let n : count y s ≡ 0 = omega (arith, one_same y y refl, eqb-true (one y y + count y s) 1 (and_l _ _ h)) in
    distinct_cons y s (λ m. omega (arith, count_mem m))
    (once s (mem_all _ s (λ x m. eq-eqb (count x s) 1 (omega (arith, count_mem m, eqb-true (one x y + count x s) 1 (all_mem (λ x. eqb (one x y + count x s) 1) s (and_r (eqb (one y y + count y s) 1) _ h) m))))))

is_once_lem : (s : List ℕ) → distinct s ≡ true → {x : ℕ} → Mem x s → count x s ≡ 1
unfolding count
is_once_lem [] h {x = x} x4 = elim x4 [ ]
is_once_lem (y ∷ s) h {x} (here e) =
    omega (arith, one_same x y e, absent x s (λ m. distinct_head y s h (rw (← e) m)))
is_once_lem (y ∷ s) h {x} (there m) =
    omega (arith, one_other x y (λ e. distinct_head y s h (rw (← e) m)), is_once_lem s (distinct_tail y s h) m)

pub distinct_count : (s : List ℕ) → all (λ x. eqb (count x s) 1) s ≡ distinct s
distinct_count s = same_truth _ _ (once s) (λ h. mem_all _ s (λ x m. eq-eqb (count x s) 1 (is_once_lem s h m)))

-- after a loop over all of them
pub distinct_done : {s : List ℕ} {ok : Bool} {i : ℕ} → Tested (is_once s) 0 s ok i → length s ≤ i → ok ≡ distinct s
distinct_done {s} t h = tested_done (is_once s) 0 s t h ∙ distinct_count s

-- ---- counted from the other side

tally_nil : (xs : List ℕ) → tally xs [] ≡ 0
unfolding tally count
tally_nil [] = refl
tally_nil (x ∷ xs) = omega (arith, tally_nil xs)

tally_cons : (xs : List ℕ) (y : ℕ) (ys : List ℕ) → tally xs (y ∷ ys) ≡ count y xs + tally xs ys
unfolding tally count
tally_cons [] y ys = refl
tally_cons (x ∷ xs) y ys = omega (arith, tally_cons xs y ys, ap (λ b. if◌then◌else◌ {A = ℕ} b 1 0) (eqb_flip x y))

tally_flip : (xs ys : List ℕ) → tally xs ys ≡ tally ys xs
unfolding tally
tally_flip xs [] = tally_nil xs
tally_flip xs (y ∷ ys) = tally_cons xs y ys ∙ ap (λ (n : ℕ). count y xs + n) (tally_flip xs ys)

-- all of a list are among distinct numbers where these stand in it as often as it is long
module _ (ns : List ℕ) (d : distinct ns ≡ true) where
  few : (ys : List ℕ) → tally ys ns ≤ length ys
  unfolding tally
  few [] = omega arith
  few (y ∷ ys) = by (member y ns) refl (few ys)
    where
      by : (b : Bool) → member y ns ≡ b → tally ys ns ≤ length ys → count y ns + tally ys ns ≤ suc (length ys)
      by true e ih = omega (arith, is_once_lem ns d (member_mem y ns e), ih)
      by false e ih = omega (arith, eqb-true (count y ns) 0 (count_none y ns ∙ ap not e), ih)

  among : (ys : List ℕ) → eqb (tally ys ns) (length ys) ≡ all (λ y. member y ns) ys
  unfolding tally all
  among [] = refl
  among (y ∷ ys) = by (member y ns) refl (among ys)
    where
      by : (b : Bool) → member y ns ≡ b → eqb (tally ys ns) (length ys) ≡ all (λ y. member y ns) ys
          → eqb (count y ns + tally ys ns) (suc (length ys)) ≡ (b && all (λ y. member y ns) ys)
      by true e ih =
          let c : count y ns ≡ 1 = is_once_lem ns d (member_mem y ns e) in
          same_truth (eqb (count y ns + tally ys ns) (suc (length ys))) (eqb (tally ys ns) (length ys))
          (λ h. eq-eqb (tally ys ns) (length ys) (omega (arith, c, eqb-true (count y ns + tally ys ns) (suc (length ys)) h)))
          (λ h. eq-eqb (count y ns + tally ys ns) (suc (length ys)) (omega (arith, c, eqb-true (tally ys ns) (length ys) h)))
          ∙ ih
      by false e ih = ne_eqb (count y ns + tally ys ns) (suc (length ys)) (λ h. omega (arith, eqb-true (count y ns) 0 (count_none y ns ∙ ap not e), few ys))

  pub listed : (ys : List ℕ) → eqb (tally ns ys) (length ys) ≡ all (λ y. member y ns) ys
  listed ys = ap (λ (n : ℕ). eqb n (length ys)) (tally_flip ns ys) ∙ among ys

pub referred : (rs : List ℕ) (x : ℕ) → leb 1 (count x rs) ≡ member x rs
referred rs x = by (member x rs) (count_none x rs)
  where
    by : (b : Bool) → eqb (count x rs) 0 ≡ not b → leb 1 (count x rs) ≡ b
    by true e = le-leb 1 (count x rs) (let n = eqb-false (count x rs) 0 e in omega (arith, n))
    by false e = lt-leb 1 (count x rs) (omega (arith, eqb-true (count x rs) 0 e))
