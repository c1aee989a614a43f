-- Request 10's indexes of groups, as the rule judges them, and a step in the row for each. Assumes nothing.
use Prim.Native.Nat.{ℕ, ◌+◌, ◌^◌, ◌%◌, ◌≤◌, ◌<◌}
use native.Mathlib.Omega.{arith}
use mathlib.Core.Path.{◌≡◌, refl, sym, ap, ap₂, ◌∙◌, subst}
use mathlib.Core.Bool.{Bool, true, false, not, ◌&&◌, ◌||◌, and-false, and_assoc, or-true, or-false}
use mathlib.Core.List.{List, [], ◌∷◌, ◌++◌}
use mathlib.Core.Logic.{◌⊎◌, inl, inr, ⊎_elim}
use lib.Bits.{bit_or}
use lib.Dec.{eqb, leb}
use lib.ListN.{length, take, drop, get_or}
use borrow.Author.Tests.{lt-ltb, le-ltb, leb-true, not-true, eqb-true, eqb-false, ne_eqb}
use Rattle.std.proofs.lemmas.Bool.{leb-false}
use Rattle.std.proofs.lemmas.List.{take-append-drop, drop_more}
use Rattle.rules.specs.Basic.{all, member, distinct, change_at, is_below}
use Rattle.rules.specs.Bits.{has}
use Rattle.rules.specs.Group.{Group, denied}
use Rattle.rules.specs.Token.{Token, max_groups, with_groups}
use Rattle.rules.specs.Memory.{token_words, token_row}
use Rattle.rules.specs.Restrict.{denied_all}
use Rattle.rules.proofs.Bits.{has_or, has_power, has_none, power_inside}
use Rattle.rules.proofs.Logic.{and_i, and_l, and_r, or_e, or_no, either, member_append, length_change_at, mem_change_at}
use Rattle.copy.specs.DeniedGroups.{Packed, deny_in, DeniedAt, GroupsDenied}

-- ---- the indexes, judged

-- those named so far are good, and their bits are the word's
pub record Named (size : ℕ) (is : List ℕ) (w : ℕ) : Type 0 where
  pub below : all (is_below size) is ≡ true
  pub apart : distinct is ≡ true
  pub bits : (k : ℕ) → has k w ≡ member k is

pub none_named : (size : ℕ) → Named size [] 0
unfolding all distinct member
none_named size = record { below = refl; apart = refl; bits = has_none }

all_last : {A : Type 0} (f : A → Bool) (xs : List A) (x : A) (ys : List A) → all f (xs ++ (x ∷ ys)) ≡ (all f xs && (f x && all f ys))
unfolding all
all_last f [] x ys = refl
all_last f (z ∷ xs) x ys = ap (λ (b : Bool). f z && b) (all_last f xs x ys) ∙ sym (and_assoc (f z) (all f xs) (f x && all f ys))

swap : (m n : ℕ) → eqb m n ≡ eqb n m
swap m n = ⊎_elim (λ e. ap₂ eqb (eqb-true m n e) (sym (eqb-true m n e))) (λ e. e ∙ sym (ne_eqb n m (λ h. eqb-false m n e (sym h)))) (either (eqb m n))

-- one more that is none of them
apart_last : (xs : List ℕ) (x : ℕ) → distinct xs ≡ true → member x xs ≡ false → distinct (xs ++ (x ∷ [])) ≡ true
unfolding distinct member
apart_last [] x d m = refl
apart_last (y ∷ ys) x d m =
    let none = or_no (eqb x y) (member x ys) m in
    ap₂ (λ (a b : Bool). not a && b)
    (member_append y ys (x ∷ []) ∙ ap₂ (λ (a b : Bool). a || (b || false)) (not-true (member y ys) (and_l (not (member y ys)) (distinct ys) d)) (swap y x ∙ none.0))
    (apart_last ys x (and_r (not (member y ys)) (distinct ys) d) none.1)

-- one that is one of them
not_apart : (xs : List ℕ) (x : ℕ) (ys : List ℕ) → member x xs ≡ true → distinct (xs ++ (x ∷ ys)) ≡ false
unfolding distinct member
not_apart [] x ys m = cc
not_apart (y ∷ xs) x ys m = by (λ h. not_apart xs x ys h) (or_e (eqb x y) (member x xs) m)
  where
    by : (member x xs ≡ true → distinct (xs ++ (x ∷ ys)) ≡ false) → (eqb x y ≡ true) ⊎ (member x xs ≡ true)
        → (not (member y (xs ++ (x ∷ ys))) && distinct (xs ++ (x ∷ ys))) ≡ false
    by ih (inl e) = ap (λ (b : Bool). not b && distinct (xs ++ (x ∷ ys)))
        (member_append y xs (x ∷ ys) ∙ ap (λ (b : Bool). member y xs || (b || member y ys)) (swap y x ∙ e) ∙ or-true (member y xs))
    by ih (inr h) = ap (λ (b : Bool). not (member y (xs ++ (x ∷ ys))) && b) (ih h) ∙ and-false (not (member y (xs ++ (x ∷ ys))))

module _ (size : ℕ) (is : List ℕ) (w : ℕ) (n : Named size is w) (few : size ≤ max_groups) (i : ℕ) where
  pub named_next : (leb size i || has i w) ≡ false → (w' : ℕ) → w' ≡ bit_or w (2 ^ i % 2 ^ 64) → Named size (is ++ (i ∷ [])) w'
  unfolding member is_below all
  named_next f w' e =
      let good = or_no (leb size i) (has i w) f in
      let low : i < size = leb-false size i good.0 in
      record {
        below = all_last (is_below size) is i [] ∙ ap₂ (λ (a b : Bool). a && (b && true)) n.below (lt-ltb i size low);
        apart = apart_last is i n.apart (sym (n.bits i) ∙ good.1);
        bits = λ k.
            ap (has k) (e ∙ ap (bit_or w) (power_inside 64 i (omega arith)))
            ∙ has_or k w (2 ^ i) ∙ ap₂ ◌||◌ (n.bits k) (has_power k i ∙ sym (or-false (eqb k i))) ∙ sym (member_append k is (i ∷ []));
      }

  -- one that is not good, wherever it stands
  pub named_bad : (leb size i || has i w) ≡ true → (later : List ℕ) → (all (is_below size) (is ++ (i ∷ later)) && distinct (is ++ (i ∷ later))) ≡ false
  unfolding is_below
  named_bad t later = by (or_e (leb size i) (has i w) t)
    where
      by : (leb size i ≡ true) ⊎ (has i w ≡ true) → (all (is_below size) (is ++ (i ∷ later)) && distinct (is ++ (i ∷ later))) ≡ false
      by (inl h) = ap (λ (b : Bool). b && distinct (is ++ (i ∷ later)))
          (all_last (is_below size) is i later ∙ ap (λ (b : Bool). all (is_below size) is && (b && all (is_below size) later)) (le-ltb i size (leb-true size i h)) ∙ and-false (all (is_below size) is))
      by (inr h) = ap (λ (b : Bool). all (is_below size) (is ++ (i ∷ later)) && b) (not_apart is i later (sym (n.bits i) ∙ h)) ∙ and-false (all (is_below size) (is ++ (i ∷ later)))

-- the judgement, where those so far are all, or one that is not good comes
module _ (all_of : List ℕ) {size : ℕ} {is : List ℕ} {w : ℕ} (n : Named size is w) where
  pub indexes_good : is ≡ all_of → true ≡ (all (is_below size) all_of && distinct all_of)
  indexes_good e = sym (subst (λ (l : List ℕ). (all (is_below size) l && distinct l) ≡ true) e (and_i n.below n.apart))

  pub indexes_bad : size ≤ max_groups → (i : ℕ) → is ≡ take (length is) all_of → (length is < length all_of) × (i ≡ get_or all_of (length is) i)
      → (leb size i || has i w) ≡ true → false ≡ (all (is_below size) all_of && distinct all_of)
  indexes_bad few i e h t =
      let parts : is ++ (i ∷ drop (length is + 1) all_of) ≡ all_of =
      ap₂ (λ (l r : List ℕ). l ++ r) e (ap (λ (x : ℕ). x ∷ drop (length is + 1) all_of) h.1 ∙ sym (drop_more all_of (length is) i h.0)) ∙ take-append-drop (length is) all_of in
      sym (subst (λ (l : List ℕ). (all (is_below size) l && distinct l) ≡ false) parts (named_bad size is w n few i t (drop (length is + 1) all_of)))

-- ---- the groups

abbrev denied_of : List ℕ → Token → Token
denied_of is t = with_groups (denied_all is t.groups) t

abbrev Sized : ℕ → Token → Type 0
Sized size t = (length t.groups ≡ size) × Packed t

deny_sized : (size i : ℕ) (t : Token) → Sized size t → Sized size (deny_in i t)
unfolding deny_in with_groups denied
deny_sized size i t h = (
  length_change_at t.groups i denied ∙ h.0,
  λ g m. ⊎_elim (λ w. omega (arith, h.1 w.0 w.1, ap (λ (x : Group). x.sid) w.2)) (λ w. h.1 g w) (mem_change_at t.groups i denied m),
)

-- the last index may as well be denied after the others
denied_last : (is : List ℕ) (i : ℕ) (gs : List Group) → change_at i denied (denied_all is gs) ≡ denied_all (is ++ (i ∷ [])) gs
unfolding denied_all
denied_last [] i gs = refl
denied_last (j ∷ is) i gs = denied_last is i (change_at j denied gs)

-- from the row ws₀ to ws
abbrev Denied : (size : ℕ) (ws₀ ws : List ℕ) → List ℕ → Type 0
Denied size ws₀ ws is = (t : Token) → Sized size t → ws₀ ≡ token_row t → (ws ≡ token_row (denied_of is t)) × Sized size (denied_of is t)

-- so far in the loop
pub record Denying (size : ℕ) (ws₀ : List ℕ) (is : List ℕ) (ws : List ℕ) : Type 0 where
  pub long : length ws ≡ token_words
  pub row : Denied size ws₀ ws is

pub deny_begin : (size : ℕ) {ws : List ℕ} → length ws ≡ token_words → Denying size ws [] ws
unfolding denied_all with_groups
deny_begin size long = record { long = long; row = λ t z e. (e, z) }

module _ {size : ℕ} {ws₀ is ws : List ℕ} (k : Denying size ws₀ is ws) where
  pub deny_end : {all_of : List ℕ} → is ≡ all_of → GroupsDenied size all_of ws₀ ws
  deny_end e = record { long = k.long; made = λ t n p q. subst (λ (l : List ℕ). ws ≡ token_row (denied_of l t)) e (k.row t (n, p) q).0 }

  pub deny_next : (i : ℕ) {ws' : List ℕ} → DeniedAt size i ws ws' → Denying size ws₀ (is ++ (i ∷ [])) ws'
  unfolding deny_in with_groups
  deny_next i {ws'} d = record {
    long = d.long;
    row = λ t z e.
        let u = k.row t z e in
        let t₁ = denied_of is t in
        subst (λ (gs : List Group). (ws' ≡ token_row (with_groups gs t)) × Sized size (with_groups gs t)) (denied_last is i t.groups)
        (d.made t₁ u.1.0 u.1.1 u.0, deny_sized size i t₁ u.1);
  }
