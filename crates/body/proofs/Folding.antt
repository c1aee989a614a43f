-- A loop that reads one thing after the other and takes a step for each: what is left gives what the whole gives. Assumes nothing.
use Prim.Native.Nat.{ℕ, ◌+◌, ◌-◌, ◌≤◌, ◌<◌}
use native.Mathlib.Omega.{arith}
use mathlib.Core.Path.{◌≡◌, refl, sym, ap, ◌∙◌}
use mathlib.Core.List.{List}
use lib.ListN.{drop}
use Rattle.rules.specs.Number.{Read, got, bad}
use Rattle.rules.specs.Request.{Reader, follow, give, times}
use Rattle.body.specs.Entries.{fold_all, folded}
use Rattle.body.proofs.Pairs.{joined, times_end, times_lost, times_next}

module _ {A X : Type 0} (p : Reader A) (step : A → X → X) (stop : X) where
  folded_joined : (x : X) (a : A) (r : Read (List A)) → folded step stop x (joined p a r) ≡ folded step stop (step a x) r
  unfolding folded fold_all follow give
  folded_joined x a (got xs later) = refl
  folded_joined x a bad = refl

  module _ (s : List ℕ) (at left : ℕ) (x z : X) (inv : folded step stop x (times left p (drop at s)) ≡ z) where
    pub fold_end : left ≤ 0 → x ≡ z
    unfolding folded fold_all
    fold_end h = ap (folded step stop x) (sym (times_end p left (drop at s) h)) ∙ inv

    pub fold_lost : 0 < left → bad ≡ p (drop at s) → stop ≡ z
    unfolding folded
    fold_lost h e = ap (folded step stop x) (sym (times_lost p left (drop at s) h e)) ∙ inv

    pub fold_next : 0 < left → (a : A) (q : ℕ) → got a (drop q s) ≡ p (drop at s) → (y : X) → y ≡ step a x
        → folded step stop y (times (left - 1) p (drop q s)) ≡ z
    fold_next h a q e y f =
        ap (λ (w : X). folded step stop w (times (left - 1) p (drop q s))) f
        ∙ sym (folded_joined x a (times (left - 1) p (drop q s)))
        ∙ ap (folded step stop x) (sym (times_next p left (drop at s) (drop q s) a h e))
        ∙ inv

  -- the same in a loop that counts up to n: it is at the i-th
  module _ (s : List ℕ) (at n i : ℕ) (x z : X) (inv : folded step stop x (times (n - i) p (drop at s)) ≡ z) where
    pub count_end : n ≤ i → x ≡ z
    count_end h = fold_end s at (n - i) x z inv (omega arith)

    pub count_lost : i < n → bad ≡ p (drop at s) → stop ≡ z
    count_lost h = fold_lost s at (n - i) x z inv (omega arith)

    pub count_next : i < n → (a : A) (q : ℕ) → got a (drop q s) ≡ p (drop at s) → (y : X) → y ≡ step a x
        → folded step stop y (times (n - (i + 1)) p (drop q s)) ≡ z
    count_next h a q e y f =
        ap (λ (k : ℕ). folded step stop y (times k p (drop q s))) {x = n - (i + 1)} {y = n - i - 1} (omega arith)
        ∙ fold_next s at (n - i) x z inv (omega arith) a q e y f
