-- Writing over the start of a list, and over a part of it that a function lends. Assumes nothing.
use Prim.Native.Nat.{ℕ, suc, ◌+◌, ◌-◌, ◌≤◌}
use native.Mathlib.Nat.{le_of_suc-le-suc, not-suc-le-zero}
use native.Mathlib.Omega.{arith}
use mathlib.Core.Path.{◌≡◌, refl, sym, ap, ◌∙◌}
use mathlib.Core.List.{List, [], ◌∷◌, ◌++◌, append-nil}
use lib.ListN.{length, take, drop, set, length-append, length-drop, drop_of_length-le}
use borrow.Rule.Slice.PartMut.{put_mid}
use borrow.Author.Rules.{part_to_end}
use Rattle.number.specs.Over.{over}

pub over_length : (xs ys : List ℕ) → length (over xs ys) ≡ length ys
unfolding over
over_length [] ys = refl
over_length (x ∷ xs) [] = refl
over_length (x ∷ xs) (y ∷ ys) = ap suc (over_length xs ys)

pub over_same : (xs o o₀ : List ℕ) → o ≡ over xs o₀ → length o ≡ length o₀
over_same xs o o₀ e = ap length e ∙ over_length xs o₀

pub over_none : (xs ys : List ℕ) → length ys ≡ 0 → ys ≡ over xs ys
unfolding over
over_none [] ys h = refl
over_none (x ∷ xs) [] h = refl
over_none (x ∷ xs) (y ∷ ys) h = absurd (omega arith)

pub over_fits : (xs ys : List ℕ) → length xs ≤ length ys → over xs ys ≡ xs ++ drop (length xs) ys
unfolding over
over_fits [] ys h = refl
over_fits (x ∷ xs) [] h = absurd (not-suc-le-zero h)
over_fits (x ∷ xs) (y ∷ ys) h = ap (λ (l : List ℕ). x ∷ l) (over_fits xs ys (le_of_suc-le-suc h))

-- zs is written where ws ends
over_onto : (ws zs ys : List ℕ) → take (length ws) (over ws ys) ++ over zs (drop (length ws) (over ws ys)) ≡ over (ws ++ zs) ys
unfolding over
over_onto [] zs ys = refl
over_onto (w ∷ ws) zs [] = sym (over_none zs [] refl)
over_onto (w ∷ ws) zs (y ∷ ys) = ap (λ (l : List ℕ). w ∷ l) (over_onto ws zs ys)

-- the first element is set, and the rest written over
pub over_first : (b : ℕ) (xs ys : List ℕ) → (length ys ≡ 0 → ⊥) → take 1 (set ys 0 b) ++ over xs (drop 1 (set ys 0 b)) ≡ over (b ∷ xs) ys
unfolding over
over_first b xs [] h = absurd (h refl)
over_first b xs (y ∷ ys) h = refl

pub over_one : (b : ℕ) (ys : List ℕ) → (length ys ≡ 0 → ⊥) → set ys 0 b ≡ over (b ∷ []) ys
unfolding over
over_one b [] h = absurd (h refl)
over_one b (y ∷ ys) h = refl

-- a part from a to the end was lent, and comes back as ys
tail_back : (xs ys : List ℕ) (a : ℕ) → put_mid a (length xs - a) xs ys ≡ take a xs ++ ys
tail_back xs ys a =
    let e : length (drop a xs) ≤ length xs - a = omega (arith, length-drop a xs) in
    ap (λ (l : List ℕ). take a xs ++ (ys ++ l)) (drop_of_length-le (drop a xs) e) ∙ ap (λ (l : List ℕ). take a xs ++ l) (append-nil ys)

-- a callee that was lent the part from a on wrote zs over it
pub lent : (o zs ys : List ℕ) (a : ℕ) → ys ≡ over zs (take (length o - a) (drop a o)) → put_mid a (length o - a) o ys ≡ take a o ++ over zs (drop a o)
lent o zs ys a e = tail_back o ys a ∙ ap (λ (l : List ℕ). take a o ++ l) (e ∙ ap (over zs) (part_to_end o a))

pub lent_length : (o : List ℕ) (a : ℕ) → length (take (length o - a) (drop a o)) ≡ length o - a
lent_length o a = ap length (part_to_end o a) ∙ length-drop a o

-- two parts, one after the other: o holds ws over o₀, up to a, and zs goes into the part from a on
pub onto : (ws zs o₀ o ys : List ℕ) (a : ℕ) → a ≡ length ws → o ≡ over ws o₀ → ys ≡ over zs (take (length o - a) (drop a o)) → put_mid a (length o - a) o ys ≡ over (ws ++ zs) o₀
onto ws zs o₀ o ys a e f w = lent o zs ys a w ∙ rw (e, f) (over_onto ws zs o₀)

-- and zs is copied into its own part
pub copied : (ws zs o₀ o : List ℕ) (a : ℕ) → length (ws ++ zs) ≤ length o₀ → a ≡ length ws → o ≡ over ws o₀ → take a o ++ (zs ++ drop (a + length zs - a) (drop a o)) ≡ over (ws ++ zs) o₀
copied ws zs o₀ o a fit e f =
    ap (λ (n : ℕ). take a o ++ (zs ++ drop n (drop a o))) {x = a + length zs - a} {y = length zs} (omega arith)
    ∙ ap (λ (l : List ℕ). take a o ++ l) (sym (over_fits zs (drop a o) (omega (arith, length-append ws zs, length-drop a o, over_same ws o o₀ f))))
    ∙ rw (e, f) (over_onto ws zs o₀)

module _ (ws zs o₀ : List ℕ) (fit : length (ws ++ zs) ≤ length o₀) where
  pub first_fits : length ws ≤ length o₀
  first_fits = omega (arith, length-append ws zs)

  module _ (a : ℕ) (e : a ≡ length ws) where
    pub both : a + length zs ≡ length (ws ++ zs)
    both = omega (arith, length-append ws zs)

    pub second_fits : (o : List ℕ) → o ≡ over ws o₀ → length zs ≤ length (take (length o - a) (drop a o))
    second_fits o f = omega (arith, both, lent_length o a, over_same ws o o₀ f)
