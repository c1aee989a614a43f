-- The first element of each row, and a loop that looks for a number among them. Assumes nothing.
use Rattle.std.specs.Prelude.{◌≡◌, Bool, true, false, eqb}
use Rattle.std.proofs.Common.{sym, ◌∙◌, zero-mul, suc-mul, add-zero, add-one, arith, drop-drop, get_or-drop, eq-eqb, ne_eqb}
use Rattle.std.proofs.Math.Path.{ap, ap₂}
use mathlib.Core.List.{List, [], ◌∷◌}
use Prim.Native.Nat.{ℕ, zero, suc, ◌+◌, ◌*◌, ◌-◌, ◌≤◌, ◌<◌}
use Rattle.std.proofs.Math.ListN.{drop, get_or}

-- 0 where a row has no element
unfoldable pub column : ℕ → ℕ → List ℕ → List ℕ
column w zero xs = []
column w (suc n) xs = get_or xs 0 0 ∷ column w n (drop w xs)

-- where the test of the element holds, 0; else one more than in the rest
abbrev pub or_next : Bool → ℕ → ℕ
or_next true k = 0
or_next false k = suc k

-- the first index of x, or the length where it is not there
unfoldable pub index_of : ℕ → List ℕ → ℕ
index_of x [] = 0
index_of x (y ∷ ys) = or_next (eqb y x) (index_of x ys)

pub index_within : (w x n : ℕ) (xs : List ℕ) → index_of x (column w n xs) ≤ n
unfolding column index_of
index_within w x zero xs = omega arith
index_within w x (suc n) xs = next (eqb (get_or xs 0 0) x) (index_within w x n (drop w xs))
  where
    next : (b : Bool) {k : ℕ} → k ≤ n → or_next b k ≤ suc n
    next true h = omega arith
    next false h = omega arith

-- a loop that has passed i rows: x is in none of them. Nothing cites it now; it stays as a theorem
pub record Seeking (w n x : ℕ) (xs : List ℕ) (i : ℕ) : Type 0 where
  pub within : i ≤ n
  pub rest : index_of x (column w n xs) ≡ i + index_of x (column w (n - i) (drop (i * w) xs))

pub seeking_none : (w n x : ℕ) (xs : List ℕ) → Seeking w n x xs 0
seeking_none w n x xs = record {
  within = omega arith;
  rest =
      ap₂ (λ (m k : ℕ). index_of x (column w m (drop k xs))) {x = n} {y = n - 0} (omega arith) (sym (zero-mul w))
      ∙ omega arith;
}

module _ {w n x : ℕ} {xs : List ℕ} {i : ℕ} (s : Seeking w n x xs i) where
  row : i < n → column w (n - i) (drop (i * w) xs) ≡ get_or xs (i * w) 0 ∷ column w (n - (i + 1)) (drop ((i + 1) * w) xs)
  unfolding column
  row h =
      ap (λ (m : ℕ). column w m (drop (i * w) xs)) {x = n - i} {y = suc (n - (i + 1))} (omega arith)
      ∙ ap₂ (λ (y : ℕ) (l : List ℕ). y ∷ column w (n - (i + 1)) l)
      (get_or-drop (i * w) xs 0 0 ∙ ap (λ (k : ℕ). get_or xs k 0) (add-zero (i * w)))
      (drop-drop w (i * w) xs ∙ ap (λ (k : ℕ). drop k xs) (sym (suc-mul i w) ∙ ap (λ (j : ℕ). j * w) (sym (add-one i))))

  seen : (b : Bool) → i < n → eqb (get_or xs (i * w) 0) x ≡ b
      → index_of x (column w n xs) ≡ i + or_next b (index_of x (column w (n - (i + 1)) (drop ((i + 1) * w) xs)))
  unfolding index_of
  seen b h e =
      s.rest
      ∙ ap (λ (l : List ℕ). i + index_of x l) (row h)
      ∙ ap (λ (c : Bool). i + or_next c (index_of x (column w (n - (i + 1)) (drop ((i + 1) * w) xs)))) e

  pub seeking_more : i < n → (get_or xs (i * w) 0 ≡ x → ⊥) → Seeking w n x xs (i + 1)
  seeking_more h u = record { within = omega arith; rest = seen false h (ne_eqb (get_or xs (i * w) 0) x u) ∙ omega arith }

  pub seeking_found : i < n → get_or xs (i * w) 0 ≡ x → i ≡ index_of x (column w n xs)
  seeking_found h e = omega (arith, seen true h (eq-eqb (get_or xs (i * w) 0) x e))

  pub seeking_done : n ≤ i → i ≡ index_of x (column w n xs)
  unfolding column index_of
  seeking_done h =
      let e : index_of x (column w (n - i) (drop (i * w) xs)) ≡ 0 =
      ap (λ (m : ℕ). index_of x (column w m (drop (i * w) xs))) {x = n - i} {y = 0} (omega arith) in
      omega (arith, s.rest)
