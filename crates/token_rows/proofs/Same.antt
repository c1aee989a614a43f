-- The test that two lists are the same: parts, padding, fields that are cut to their width; and tables of rows that are tested so. Assumes nothing.
use Rattle.std.proofs.Common.{◌≡◌, ℕ, zero, suc, ◌-◌, ◌*◌, ◌≤◌, Bool, true, false, ◌&&◌, eqb, ltb, leb, List, [], ◌∷◌, ◌++◌, map, length, take, drop, replicate, sym, refl, ap, ◌∙◌, ap₂, map-id, suc-mul, zero-mul, arith, length-drop, length-take, length-take-le, take_all, ltb-true, lt-ltb, eq-eqb, eqb-true, le-leb, leb-true}
use mathlib.Core.Bool.{and_assoc}
use borrow.Author.Tests.{eqb-false}
use lib.ListN.{length-map}
use Rattle.table.specs.Lists.{pad, pad_fits}
use Rattle.table.specs.Table.{flat}
use Rattle.table.specs.Rows.{read_rows, test_rows}
use Rattle.table.specs.Sections.{total, joined}
use Rattle.rules.specs.Basic.{all, same, is_zero, word32}
use Rattle.rules.specs.Memory.{mark, low32, low8}
use Rattle.rules.proofs.Same.{same_refl}
use Rattle.lists.proofs.Truth.{same_truth, and_swap, eqb_flip}

pub same_append : (n : ℕ) (xs ys zs : List ℕ) → length xs ≡ n → same (xs ++ ys) zs ≡ (same xs (take n zs) && same ys (drop n zs))
unfolding same
same_append n xs ys zs e = by xs zs ∙ ap₂ (λ (j k : ℕ). same xs (take j zs) && same ys (drop k zs)) e e
  where
    by : (xs zs : List ℕ) → same (xs ++ ys) zs ≡ (same xs (take (length xs) zs) && same ys (drop (length xs) zs))
    by [] zs = refl
    by (x ∷ xs) [] = refl
    by (x ∷ xs) (z ∷ zs) = ap (λ b. eqb x z && b) (by xs zs) ∙ sym (and_assoc (eqb x z) _ _)

-- sections one after the other, each against the elements where it stands
unfoldable pub all_same : List (List ℕ) → List ℕ → Bool
all_same [] ws = true
all_same (xs ∷ xss) ws = same xs (take (length xs) ws) && all_same xss (drop (length xs) ws)

pub same_joined : (xss : List (List ℕ)) (ws : List ℕ) → length ws ≡ total (map length xss) → same (joined xss) ws ≡ all_same xss ws
unfolding flat same all_same
same_joined [] [] e = refl
same_joined [] (w ∷ ws) e = absurd (omega arith)
same_joined (xs ∷ xss) ws e =
    same_append (length xs) xs (joined xss) ws refl
    ∙ ap (λ b. same xs (take (length xs) ws) && b) (same_joined xss (drop (length xs) ws) (length-drop (length xs) ws ∙ omega (arith, e)))

pub same_zeros : (n : ℕ) (zs : List ℕ) → length zs ≡ n → same (replicate n 0) zs ≡ all is_zero zs
unfolding same all
same_zeros zero [] e = refl
same_zeros zero (z ∷ zs) e = absurd (omega arith)
same_zeros (suc n) [] e = absurd (omega arith)
same_zeros (suc n) (z ∷ zs) e = ap₂ (λ a b. a && b) (eqb_flip 0 z) (same_zeros n zs (omega arith))

-- a list of k elements against the padding of f of its first n
pub same_pad : (f : ℕ → ℕ) (k n : ℕ) (zs : List ℕ) → length zs ≡ k → n ≤ k
    → same (pad k (map f (take n zs))) zs ≡ (same (map f (take n zs)) (take n zs) && all is_zero (drop n zs))
same_pad f k n zs l h =
    let e : length (map f (take n zs)) ≡ n = length-map (take n zs) f ∙ length-take-le n zs (omega arith) in
    ap (λ ys. same ys zs) (pad_fits k (map f (take n zs)) (omega arith))
    ∙ same_append n (map f (take n zs)) (replicate (k - length (map f (take n zs))) 0) zs e
    ∙ ap (λ b. same (map f (take n zs)) (take n zs) && b)
    (ap (λ (m : ℕ). same (replicate (k - m) 0) (drop n zs)) e ∙ same_zeros (k - n) (drop n zs) (simp length-drop (omega arith)))

pub same_pad_take : (k n : ℕ) (zs : List ℕ) → length zs ≡ k → n ≤ k → same (pad k (take n zs)) zs ≡ all is_zero (take (k - n) (drop n zs))
same_pad_take k n zs l h =
    ap (λ l. same (pad k l) zs) (sym (map-id (take n zs)))
    ∙ same_pad (λ w. w) k n zs l h
    ∙ ap (λ b. b && all is_zero (drop n zs)) (ap (λ l. same l (take n zs)) (map-id (take n zs)) ∙ same_refl (take n zs))
    ∙ ap (all is_zero) (sym (take_all (k - n) (drop n zs) (simp length-drop (omega arith))))

-- a list against f of each of its elements, where f x is x just where g x
pub same_map : (f : ℕ → ℕ) (g : ℕ → Bool) → ((x : ℕ) → eqb (f x) x ≡ g x) → (xs : List ℕ) → same (map f xs) xs ≡ all g xs
unfolding same all
same_map f g u [] = refl
same_map f g u (x ∷ xs) = ap₂ (λ a b. a && b) (u x) (same_map f g u xs)

-- ---- a field that is cut to its width is the same just where it is below

pub cut32 : (w : ℕ) → eqb (low32 w) w ≡ ltb w word32
cut32 w = same_truth _ _ (λ h. lt-ltb w word32 (omega (arith, eqb-true))) (λ h. eq-eqb _ w (omega (arith, ltb-true)))

pub cut8 : (w : ℕ) → eqb (low8 w) w ≡ ltb w 256
cut8 w = same_truth _ _ (λ h. lt-ltb w 256 (omega (arith, eqb-true))) (λ h. eq-eqb _ w (omega (arith, ltb-true)))

pub cut_mark : (w : ℕ) → eqb (mark (eqb w 1)) w ≡ ltb w 2
unfolding mark
cut_mark w = by (eqb w 1) refl
  where
    by : (b : Bool) → eqb w 1 ≡ b → eqb (mark b) w ≡ ltb w 2
    by true e = eq-eqb 1 w (sym (eqb-true w 1 e)) ∙ sym (lt-ltb w 2 (omega (arith, eqb-true w 1 e)))
    by false e = same_truth _ _ (λ h. lt-ltb w 2 (omega (arith, eqb-true))) (λ h. eq-eqb 0 w (omega (arith, ltb-true, eqb-false w 1 e)))

-- a count is the length of what it takes just where there is as much
pub cut_count : {A : Type 0} (k n : ℕ) (xs : List A) → length xs ≡ k → eqb (length (take n xs)) n ≡ leb n k
cut_count k n xs l =
    same_truth _ _ (λ h. le-leb n k (omega (arith, eqb-true, length-take n xs))) (λ h. eq-eqb _ n (length-take-le n xs (omega (arith, leb-true))))

-- ---- two tables, row by row

module _ {C : Type 0} (at : List ℕ → List ℕ → C) (w v : ℕ) where
  -- they are what the records that they hold are written as, and each record passes the test
  pub same_rows : (p : C → Bool) (f g : C → List ℕ) → ((c : C) → length (f c) ≡ w) → ((c : C) → length (g c) ≡ v)
      → (n : ℕ) (xs bs : List ℕ) → length xs ≡ n * w → length bs ≡ n * v
      → (same (flat f (read_rows at w v n xs bs)) xs && same (flat g (read_rows at w v n xs bs)) bs && all p (read_rows at w v n xs bs))
      ≡ test_rows (λ a b. same (f (at a b)) a && same (g (at a b)) b && p (at a b)) w v n xs bs
  unfolding read_rows test_rows flat same all
  same_rows p f g lf lg zero [] [] ex eb = refl
  same_rows p f g lf lg zero [] (b ∷ bs) ex eb = absurd (omega (arith, zero-mul v))
  same_rows p f g lf lg zero (x ∷ xs) bs ex eb = absurd (omega (arith, zero-mul w))
  same_rows p f g lf lg (suc n) xs bs ex eb =
      let c : C = at (take w xs) (take v bs) in
      let cs : List C = read_rows at w v n (drop w xs) (drop v bs) in
      let a₁ : Bool = same (f c) (take w xs) in
      let a₂ : Bool = same (flat f cs) (drop w xs) in
      let b₁ : Bool = same (g c) (take v bs) in
      let b₂ : Bool = same (flat g cs) (drop v bs) in
      ap₂ (λ a b. a && b && (p c && all p cs)) (same_append w (f c) (flat f cs) xs (lf c)) (same_append v (g c) (flat g cs) bs (lg c))
      ∙ ap (λ b. b && (p c && all p cs)) (and_swap a₁ a₂ b₁ b₂)
      ∙ and_swap (a₁ && b₁) (a₂ && b₂) (p c) (all p cs)
      ∙ ap (λ b. a₁ && b₁ && p c && b)
      (same_rows p f g lf lg n (drop w xs) (drop v bs)
      (length-drop w xs ∙ omega (arith, ex, suc-mul n w)) (length-drop v bs ∙ omega (arith, eb, suc-mul n v)))
