-- Tests of Bool, and membership of lists. Assumes nothing.
use Prim.Native.Nat.{ℕ, zero, suc, ◌<◌, ◌≤◌}
use native.Mathlib.Omega.{arith}
use mathlib.Core.Path.{◌≡◌, refl, sym, ap, ap₂, ◌∙◌}
use mathlib.Core.Bool.{Bool, true, false, not, ◌&&◌, ◌||◌, or-true, or_assoc, and-false}
use mathlib.Core.Logic.{◌⊎◌, inl, inr, ⊎_elim}
use mathlib.Core.List.{List, [], ◌∷◌, ◌++◌, map}
use lib.Dec.{eqb}
use lib.ListN.{length, get_or, set}
use borrow.Author.Tests.{eqb-true, eq-eqb}
use Rattle.std.specs.Prelude.{if◌then◌else◌}
use Rattle.rules.specs.Basic.{all, filter, member, distinct, non_zero, implies, change_at}
use Rattle.rules.specs.Growth.{Mem, here, there}

-- ---- tests

pub and_l : (x y : Bool) → (x && y) ≡ true → x ≡ true
and_l true y h = refl
and_l false y h = h

pub and_r : (x y : Bool) → (x && y) ≡ true → y ≡ true
and_r true y h = h
and_r false y h = cc

pub and_i : {x y : Bool} → x ≡ true → y ≡ true → (x && y) ≡ true
and_i p q = ap₂ ◌&&◌ p q

pub or_e : (x y : Bool) → (x || y) ≡ true → (x ≡ true) ⊎ (y ≡ true)
or_e true y h = inl refl
or_e false y h = inr h

pub or_l : (x y : Bool) → x ≡ true → (x || y) ≡ true
or_l x y h = ap (λ (b : Bool). b || y) h

pub or_r : (x y : Bool) → y ≡ true → (x || y) ≡ true
or_r x y h = ap (λ (b : Bool). x || b) h ∙ or-true x

pub not_both : {x : Bool} → x ≡ true → x ≡ false → ⊥
not_both h k = let z : ◌≡◌ {A = ℕ} 0 1 = cc in omega arith

pub or_no : (x y : Bool) → (x || y) ≡ false → (x ≡ false) × (y ≡ false)
or_no true y h = absurd (not_both refl h)
or_no false y h = (refl, h)

pub not_e : (x : Bool) → not x ≡ true → x ≡ true → ⊥
not_e true h k = not_both refl (sym h)
not_e false h k = not_both k refl

pub not_i : (x : Bool) → (x ≡ true → ⊥) → not x ≡ true
not_i true h = absurd (h refl)
not_i false h = refl

pub implies_e : (x y : Bool) → implies x y ≡ true → x ≡ true → y ≡ true
unfolding implies
implies_e true y h k = h
implies_e false y h k = absurd (not_both k refl)

pub implies_i : (x y : Bool) → (x ≡ true → y ≡ true) → implies x y ≡ true
unfolding implies
implies_i true y h = h refl
implies_i false y h = refl

pub either : (b : Bool) → (b ≡ true) ⊎ (b ≡ false)
either true = inl refl
either false = inr refl

-- ---- membership

module _ {A : Type 0} where
  pub all_mem : (f : A → Bool) (xs : List A) → all f xs ≡ true → {a : A} → Mem a xs → f a ≡ true
  unfolding all
  all_mem f [] h {a = a} x'' = elim x'' [ ]
  all_mem f (x ∷ xs) h (here e) = ap f e ∙ and_l (f x) (all f xs) h
  all_mem f (x ∷ xs) h (there m) = all_mem f xs (and_r (f x) (all f xs) h) m

  pub mem_all : (f : A → Bool) (xs : List A) → ((a : A) → Mem a xs → f a ≡ true) → all f xs ≡ true
  unfolding all
  mem_all f [] h = refl
  mem_all f (x ∷ xs) h = and_i (h x (here refl)) (mem_all f xs (λ a m. h a (there m)))

  pub mem_none : {a : A} → Mem a [] → ⊥
  unfolding all
  mem_none m = not_both (all_mem (λ x. false) [] refl m) refl

  pub mem_left : {a : A} {xs : List A} (ys : List A) → Mem a xs → Mem a (xs ++ ys)
  mem_left ys (here e) = here e
  mem_left ys (there m) = there (mem_left ys m)

  pub mem_right : {a : A} (xs : List A) {ys : List A} → Mem a ys → Mem a (xs ++ ys)
  mem_right [] m = m
  mem_right (x ∷ xs) m = there (mem_right xs m)

  pub mem_append : {a : A} (xs : List A) {ys : List A} → Mem a (xs ++ ys) → Mem a xs ⊎ Mem a ys
  mem_append [] m = inr m
  mem_append (x ∷ xs) (here e) = inl (here e)
  mem_append (x ∷ xs) (there m) = ⊎_elim (λ k. inl (there k)) (λ k. inr k) (mem_append xs m)

  pub length_change_at : (xs : List A) (i : ℕ) (f : A → A) → length (change_at i f xs) ≡ length xs
  unfolding change_at
  length_change_at [] i f = refl
  length_change_at (x ∷ xs) zero f = refl
  length_change_at (x ∷ xs) (suc i) f = ap suc (length_change_at xs i f)

  pub change_at_set : (xs : List A) (i : ℕ) (f : A → A) (z : A) → change_at i f xs ≡ set xs i (f (get_or xs i z))
  unfolding change_at
  change_at_set [] i f z = refl
  change_at_set (x ∷ xs) zero f z = refl
  change_at_set (x ∷ xs) (suc i) f z = ap (λ ys. x ∷ ys) (change_at_set xs i f z)

  -- what stands there after a change, and what stood there before
  pub mem_change_at : (xs : List A) (i : ℕ) (f : A → A) {a : A} → Mem a (change_at i f xs) → ((b : A) × Mem b xs × (a ≡ f b)) ⊎ Mem a xs
  unfolding change_at
  mem_change_at [] i f m = inr m
  mem_change_at (x ∷ xs) zero f (here e) = inl (x, here refl, e)
  mem_change_at (x ∷ xs) zero f (there m) = inr (there m)
  mem_change_at (x ∷ xs) (suc i) f (here e) = inr (here e)
  mem_change_at (x ∷ xs) (suc i) f (there m) = ⊎_elim (λ r. inl (r.0, there r.1, r.2)) (λ k. inr (there k)) (mem_change_at xs i f m)

  pub change_at_mem : (xs : List A) (i : ℕ) (f : A → A) (b : A) {a : A} → Mem a xs → (a ≡ get_or xs i b) ⊎ Mem a (change_at i f xs)
  unfolding change_at
  change_at_mem [] i f b {a = a} x' = elim x' [ ]
  change_at_mem (x ∷ xs) zero f b (here e) = inl e
  change_at_mem (x ∷ xs) zero f b (there m) = inr (there m)
  change_at_mem (x ∷ xs) (suc i) f b (here e) = inr (here e)
  change_at_mem (x ∷ xs) (suc i) f b (there m) = ⊎_elim (λ e. inl e) (λ k. inr (there k)) (change_at_mem xs i f b m)

  pub get_or_mem : (xs : List A) (i : ℕ) (b : A) → i < length xs → Mem (get_or xs i b) xs
  get_or_mem [] i b h = absurd (omega arith)
  get_or_mem (x ∷ xs) zero b h = here refl
  get_or_mem (x ∷ xs) (suc i) b h = there (get_or_mem xs i b (omega arith))

pub map_mem : {A B : Type 0} (g : A → B) {a : A} {xs : List A} → Mem a xs → Mem (g a) (map g xs)
map_mem g (here e) = here (ap g e)
map_mem g (there m) = there (map_mem g m)

pub mem_by : {A B : Type 0} (g : A → B) {a : A} {xs : List A} {b : B} → b ≡ g a → Mem a xs → Mem b (map g xs)
mem_by g q (here e) = here (q ∙ ap g e)
mem_by g q (there m) = there (mem_by g q m)

pub mem_map : {A B : Type 0} (g : A → B) (xs : List A) {b : B} → Mem b (map g xs) → (a : A) × Mem a xs × (b ≡ g a)
mem_map {A = A} {B = B} g [] {b = b} x' = elim x' [ ]
mem_map g (x ∷ xs) (here e) = (x, here refl, e)
mem_map g (x ∷ xs) (there m) = let r = mem_map g xs m in (r.0, there r.1, r.2)

-- ---- numbers in lists

pub member_mem : (n : ℕ) (xs : List ℕ) → member n xs ≡ true → Mem n xs
unfolding member
member_mem n [] h = absurd (not_both h refl)
member_mem n (x ∷ xs) h = ⊎_elim (λ e. here (eqb-true n x e)) (λ k. there (member_mem n xs k)) (or_e (eqb n x) (member n xs) h)

pub mem_member : {n : ℕ} {xs : List ℕ} → Mem n xs → member n xs ≡ true
unfolding member
mem_member {n} (here {x = x} {xs = xs} e) = or_l (eqb n x) (member n xs) (eq-eqb n x e)
mem_member {n} (there {x = x} {xs = xs} m) = or_r (eqb n x) (member n xs) (mem_member m)

-- a number with a property of its own is at none of the others
pub distinct_head : (x : ℕ) (xs : List ℕ) → distinct (x ∷ xs) ≡ true → Mem x xs → ⊥
unfolding distinct
distinct_head x xs h m = not_e (member x xs) (and_l _ (distinct xs) h) (mem_member m)

pub member_append : (n : ℕ) (xs ys : List ℕ) → member n (xs ++ ys) ≡ (member n xs || member n ys)
unfolding member
member_append n [] ys = refl
member_append n (x ∷ xs) ys = ap (λ (b : Bool). eqb n x || b) (member_append n xs ys) ∙ sym (or_assoc (eqb n x) (member n xs) (member n ys))

pub distinct_tail : (x : ℕ) (xs : List ℕ) → distinct (x ∷ xs) ≡ true → distinct xs ≡ true
unfolding distinct
distinct_tail x xs h = and_r (not (member x xs)) (distinct xs) h

pub distinct_cons : (x : ℕ) (xs : List ℕ) → (Mem x xs → ⊥) → distinct xs ≡ true → distinct (x ∷ xs) ≡ true
unfolding distinct
distinct_cons x xs h k = and_i (not_i (member x xs) (λ m. h (member_mem x xs m))) k

pub all_append : {A : Type 0} (f : A → Bool) (xs ys : List A) → all f xs ≡ true → all f ys ≡ true → all f (xs ++ ys) ≡ true
unfolding all
all_append f [] ys h k = k
all_append f (x ∷ xs) ys h k = and_i (and_l (f x) (all f xs) h) (all_append f xs ys (and_r (f x) (all f xs) h) k)

-- ---- those that pass a test

pub mem_filter : {A : Type 0} (f : A → Bool) (xs : List A) {a : A} → Mem a (filter f xs) → Mem a xs × (f a ≡ true)
unfolding filter
mem_filter {A = A} f [] {a = a} m = elim m [ ]
mem_filter f (x ∷ xs) {a} m = go (f x) refl m (λ k. mem_filter f xs k)
  where
    go : (b : Bool) → f x ≡ b → Mem a (if b then x ∷ filter f xs else filter f xs) → (Mem a (filter f xs) → Mem a xs × (f a ≡ true)) → Mem a (x ∷ xs) × (f a ≡ true)
    go true p (here e) rest = (here e, ap f e ∙ p)
    go true p (there m) rest = let r = rest m in (there r.0, r.1)
    go false p m rest = let r = rest m in (there r.0, r.1)

pub filter_mem : {A : Type 0} (f : A → Bool) (xs : List A) {a : A} → Mem a xs → f a ≡ true → Mem a (filter f xs)
unfolding filter
filter_mem {A = A} f [] {a = a} x'' h = elim x'' [ ]
filter_mem f (x ∷ xs) (here e) h = rw (ap f (sym e) ∙ h) (here e)
filter_mem f (x ∷ xs) {a} (there m) h = go (f x) (filter_mem f xs m h)
  where
    go : (b : Bool) → Mem a (filter f xs) → Mem a (if b then x ∷ filter f xs else filter f xs)
    go true k = there k
    go false k = k

pub member_filter : (f : ℕ → Bool) (n : ℕ) (xs : List ℕ) → member n (filter f xs) ≡ (f n && member n xs)
unfolding member filter
member_filter f n [] = sym (and-false (f n))
member_filter f n (x ∷ xs) = go (f x) (eqb n x) refl refl (member_filter f n xs)
  where
    same : {b : Bool} → f x ≡ b → eqb n x ≡ true → f n ≡ b
    same p q = ap f (eqb-true n x q) ∙ p

    go : (b c : Bool) → f x ≡ b → eqb n x ≡ c → member n (filter f xs) ≡ (f n && member n xs) → member n (if b then x ∷ filter f xs else filter f xs) ≡ (f n && (c || member n xs))
    go true true p q ih = ap (λ (c : Bool). c || member n (filter f xs)) q ∙ sym (ap (λ (b : Bool). b && true) (same p q))
    go true false p q ih = ap (λ (c : Bool). c || member n (filter f xs)) q ∙ ih
    go false true p q ih = ih ∙ ap (λ (b : Bool). b && member n xs) (same p q) ∙ sym (ap (λ (b : Bool). b && true) (same p q))
    go false false p q ih = ih

-- where all pass, all stay
filter_all : {A : Type 0} (f : A → Bool) (xs : List A) → ((a : A) → Mem a xs → f a ≡ true) → filter f xs ≡ xs
unfolding filter
filter_all f [] h = refl
filter_all f (x ∷ xs) h = rw (h x (here refl)) (ap (λ ys. x ∷ ys) (filter_all f xs (λ a m. h a (there m))))

distinct_filter : (f : ℕ → Bool) (xs : List ℕ) → distinct xs ≡ true → distinct (filter f xs) ≡ true
unfolding filter
distinct_filter f [] d = d
distinct_filter f (x ∷ xs) d = go (f x) (distinct_filter f xs (distinct_tail x xs d))
  where
    go : (b : Bool) → distinct (filter f xs) ≡ true → distinct (if b then x ∷ filter f xs else filter f xs) ≡ true
    go true k = distinct_cons x (filter f xs) (λ m. distinct_head x xs d (mem_filter f xs m).0) k
    go false k = k

unfoldable is_not : ℕ → ℕ → Bool
is_not k n = not (eqb n k)

-- of distinct numbers, all but one are not k
but_one : (k : ℕ) (xs : List ℕ) → distinct xs ≡ true → length xs ≤ suc (length (filter (is_not k) xs))
unfolding filter is_not
but_one k [] d = omega arith
but_one k (x ∷ xs) d = go (eqb x k) refl (but_one k xs (distinct_tail x xs d))
  where
    others : eqb x k ≡ true → (n : ℕ) → Mem n xs → is_not k n ≡ true
    others e n m = not_i (eqb n k) (λ q. distinct_head x xs d (rw (eqb-true x k e, ← eqb-true n k q) m))

    go : (b : Bool) → eqb x k ≡ b → length xs ≤ suc (length (filter (is_not k) xs)) → length (x ∷ xs) ≤ suc (length (if not b then x ∷ filter (is_not k) xs else filter (is_not k) xs))
    go true e h = rw (filter_all (is_not k) xs (others e)) (omega arith)
    go false e h = omega arith

-- distinct numbers below k are at most k
pub few : (k : ℕ) (xs : List ℕ) → distinct xs ≡ true → ((n : ℕ) → Mem n xs → n < k) → length xs ≤ k
unfolding is_not
few zero [] d h = omega arith
few zero (x ∷ xs) d h = absurd (omega (arith, h x (here refl)))
few (suc k) xs d h = omega (arith, but_one k xs d, few k (filter (is_not k) xs) (distinct_filter (is_not k) xs d) below)
  where
    below : (n : ℕ) → Mem n (filter (is_not k) xs) → n < k
    below n m =
        let r = mem_filter (is_not k) xs m in
        let ne : n ≡ k → ⊥ = λ e. not_e (eqb n k) r.1 (eq-eqb n k e) in
        omega (arith, ne, h n r.0)

-- the numbers that are not 0
not_zero : {n : ℕ} → 1 ≤ n → not (eqb n 0) ≡ true
not_zero {n} h = not_i (eqb n 0) (λ q. let z = eqb-true n 0 q in omega arith)

pub mem_non_zero : {n : ℕ} (ns : List ℕ) → Mem n (non_zero ns) → Mem n ns × (1 ≤ n)
unfolding non_zero
mem_non_zero {n} ns m =
    let r = mem_filter _ ns m in
    let z : n ≡ 0 → ⊥ = λ e. not_e (eqb n 0) r.1 (eq-eqb n 0 e) in
    (r.0, omega (arith, z))

pub non_zero_mem : {n : ℕ} (ns : List ℕ) → Mem n ns → 1 ≤ n → Mem n (non_zero ns)
unfolding non_zero
non_zero_mem ns m h = filter_mem _ ns m (not_zero h)
