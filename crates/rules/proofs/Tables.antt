-- Laws of tables: what is live after a record was placed, exchanged or freed. Assumes nothing.
use Prim.Native.Nat.{ℕ, suc}
use native.Mathlib.Omega.{arith}
use mathlib.Core.Path.{◌≡◌, refl, sym, ap, ◌∙◌}
use mathlib.Core.Bool.{Bool, true, false}
use mathlib.Core.Logic.{◌⊎◌, inl, inr, ⊎_elim}
use mathlib.Core.List.{List, [], ◌∷◌, map}
use lib.Dec.{eqb}
use lib.ListN.{length}
use borrow.Author.Tests.{eqb-true, eq-eqb}
use Rattle.std.specs.Prelude.{if◌then◌else◌}
use Rattle.rules.specs.Basic.{distinct}
use Rattle.rules.specs.Growth.{Mem, here, there}
use Rattle.rules.specs.Table.{is_live, or_else, lives, some_free, found, placed, exchanged, retained, Slot, free, live}
use Rattle.rules.proofs.Logic.{not_both, mem_none, mem_by, mem_map, distinct_head, distinct_tail, distinct_cons}

-- a property of both picks holds of the pick; and knowing the test
pub on_if : {A : Type 0} (P : A → Type 0) (b : Bool) (x y : A) → (b ≡ true → P x) → (b ≡ false → P y) → P (if b then x else y)
on_if P true x y p q = p refl
on_if P false x y p q = q refl

module _ {A : Type 0} where
  -- ---- a record in the lowest free slot

  pub in_placed : (a : A) (ps : List (Slot A)) {b : A} → Mem b (lives (placed a ps)) → (b ≡ a) ⊎ Mem b (lives ps)
  unfolding placed lives
  in_placed a [] {b = b} x' = elim x' [ ]
  in_placed a (free ∷ ps) (here e) = inl e
  in_placed a (free ∷ ps) (there m) = inr m
  in_placed a (live c ∷ ps) (here e) = inr (here e)
  in_placed a (live c ∷ ps) (there m) = ⊎_elim (λ e. inl e) (λ k. inr (there k)) (in_placed a ps m)

  pub placed_new : (a : A) (ps : List (Slot A)) → some_free ps ≡ true → Mem a (lives (placed a ps))
  unfolding placed lives some_free
  placed_new a [] h = absurd (not_both h refl)
  placed_new a (free ∷ ps) h = here refl
  placed_new a (live c ∷ ps) h = there (placed_new a ps h)

  pub placed_old : (a : A) (ps : List (Slot A)) {b : A} → Mem b (lives ps) → Mem b (lives (placed a ps))
  unfolding placed lives
  placed_old a [] {b = b} m = elim m [ ]
  placed_old a (free ∷ ps) m = there m
  placed_old a (live c ∷ ps) (here e) = here e
  placed_old a (live c ∷ ps) (there m) = there (placed_old a ps m)

  pub length_placed : (a : A) (ps : List (Slot A)) → length (placed a ps) ≡ length ps
  unfolding placed
  length_placed a [] = refl
  length_placed a (free ∷ ps) = refl
  length_placed a (live c ∷ ps) = ap suc (length_placed a ps)

  pub live_slot : (z : A) (p : Slot A) → is_live p ≡ true → p ≡ live (or_else z p)
  unfolding is_live or_else
  live_slot z free h = absurd (not_both h refl)
  live_slot z (live a) h = refl

  -- what stands at a slot, or after it
  pub at_slot : (p : Slot A) (ps : List (Slot A)) {b : A} → Mem b (lives (p ∷ ps)) → (p ≡ live b) ⊎ Mem b (lives ps)
  unfolding lives
  at_slot free ps m = inr m
  at_slot (live c) ps (here e) = inl (ap live (sym e))
  at_slot (live c) ps (there m) = inr m

  module _ (f : A → Bool) where
    -- ---- the first that passes

    pub found_in : (ps : List (Slot A)) {a : A} → found f ps ≡ live a → Mem a (lives ps) × (f a ≡ true)
    unfolding found lives
    found_in [] e = absurd (let z : ◌≡◌ {A = ℕ} 0 1 = cc in omega arith)
    found_in (free ∷ ps) e = found_in ps e
    found_in (live c ∷ ps) {a} e = go (f c) refl e (λ k. found_in ps k)
      where
        go : (b : Bool) → f c ≡ b → (if b then live c else found f ps) ≡ live a → (found f ps ≡ live a → Mem a (lives ps) × (f a ≡ true)) → Mem a (c ∷ lives ps) × (f a ≡ true)
        go true t e ih = let q : c ≡ a = cc in (here (sym q), ap f (sym q) ∙ t)
        go false t e ih = let r = ih e in (there r.0, r.1)

    pub found_none : (ps : List (Slot A)) {a : A} → found f ps ≡ free → Mem a (lives ps) → f a ≡ true → ⊥
    unfolding found lives
    found_none [] e m h = mem_none m
    found_none (free ∷ ps) e m h = found_none ps e m h
    found_none (live c ∷ ps) {a} e m h = go (f c) refl e m (λ k i. found_none ps k i h)
      where
        go : (b : Bool) → f c ≡ b → (if b then live c else found f ps) ≡ free → Mem a (c ∷ lives ps) → (found f ps ≡ free → Mem a (lives ps) → ⊥) → ⊥
        go true t e m ih = let z : ◌≡◌ {A = ℕ} 0 1 = cc in omega arith
        go false t e (here q) ih = not_both h (ap f q ∙ t)
        go false t e (there m) ih = ih e m

    pub in_exchanged : (p : Slot A) (ps : List (Slot A)) {b : A} → Mem b (lives (exchanged f p ps)) → (p ≡ live b) ⊎ Mem b (lives ps)
    unfolding exchanged lives
    in_exchanged p [] {b = b} m = elim m [ ]
    in_exchanged p (free ∷ ps) m = in_exchanged p ps m
    in_exchanged p (live c ∷ ps) {b} m = go (f c) m (λ k. in_exchanged p ps k)
      where
        go : (t : Bool) → Mem b (lives (if t then p ∷ ps else live c ∷ exchanged f p ps)) → (Mem b (lives (exchanged f p ps)) → (p ≡ live b) ⊎ Mem b (lives ps)) → (p ≡ live b) ⊎ Mem b (c ∷ lives ps)
        go true m ih = ⊎_elim (λ e. inl e) (λ k. inr (there k)) (at_slot p ps m)
        go false (here e) ih = inr (here e)
        go false (there m) ih = ⊎_elim (λ e. inl e) (λ k. inr (there k)) (ih m)

    pub exchanged_new : (a : A) (ps : List (Slot A)) {b : A} → Mem b (lives ps) → f b ≡ true → Mem a (lives (exchanged f (live a) ps))
    unfolding exchanged lives
    exchanged_new a [] {b = b} m h = elim m [ ]
    exchanged_new a (free ∷ ps) m h = exchanged_new a ps m h
    exchanged_new a (live c ∷ ps) (here e) h = rw (sym (ap f e) ∙ h) (here refl)
    exchanged_new a (live c ∷ ps) (there m) h =
        on_if (λ qs. Mem a (lives qs)) (f c) (live a ∷ ps) (live c ∷ exchanged f (live a) ps) (λ t. here refl) (λ t. there (exchanged_new a ps m h))

    pub length_exchanged : (p : Slot A) (ps : List (Slot A)) → length (exchanged f p ps) ≡ length ps
    unfolding exchanged
    length_exchanged p [] = refl
    length_exchanged p (free ∷ ps) = ap suc (length_exchanged p ps)
    length_exchanged p (live c ∷ ps) = on_if (λ (qs : List (Slot A)). length qs ≡ suc (length ps)) (f c) (p ∷ ps) (live c ∷ exchanged f p ps) (λ t. refl) (λ t. ap suc (length_exchanged p ps))

    pub some_free_lem : (a : A) (ps : List (Slot A)) → some_free (exchanged f (live a) ps) ≡ some_free ps
    unfolding exchanged some_free
    some_free_lem a [] = refl
    some_free_lem a (free ∷ ps) = refl
    some_free_lem a (live c ∷ ps) = on_if (λ (qs : List (Slot A)). some_free qs ≡ some_free ps) (f c) (live a ∷ ps) (live c ∷ exchanged f (live a) ps) (λ t. refl) (λ t. some_free_lem a ps)

    -- ---- those that pass

    pub in_retained : (ps : List (Slot A)) {b : A} → Mem b (lives (retained f ps)) → Mem b (lives ps) × (f b ≡ true)
    unfolding retained lives
    in_retained [] {b = b} m = elim m [ ]
    in_retained (free ∷ ps) m = in_retained ps m
    in_retained (live c ∷ ps) {b} m = go (f c) refl m (λ k. in_retained ps k)
      where
        go : (t : Bool) → f c ≡ t → Mem b (lives ((if t then live c else free) ∷ retained f ps)) → (Mem b (lives (retained f ps)) → Mem b (lives ps) × (f b ≡ true)) → Mem b (c ∷ lives ps) × (f b ≡ true)
        go true t (here e) ih = (here e, ap f e ∙ t)
        go true t (there m) ih = let r = ih m in (there r.0, r.1)
        go false t m ih = let r = ih m in (there r.0, r.1)

    pub retained_in : (ps : List (Slot A)) {b : A} → Mem b (lives ps) → f b ≡ true → Mem b (lives (retained f ps))
    unfolding retained lives
    retained_in [] {b = b} m h = elim m [ ]
    retained_in (free ∷ ps) m h = retained_in ps m h
    retained_in (live c ∷ ps) {b} (here e) h = rw (sym (ap f e) ∙ h) (here e)
    retained_in (live c ∷ ps) {b} (there m) h =
        on_if (λ p. Mem b (lives (p ∷ retained f ps))) (f c) (live c) free (λ t. there (retained_in ps m h)) (λ t. retained_in ps m h)

    pub length_retained : (ps : List (Slot A)) → length (retained f ps) ≡ length ps
    unfolding retained
    length_retained [] = refl
    length_retained (free ∷ ps) = ap suc (length_retained ps)
    length_retained (live c ∷ ps) = ap suc (length_retained ps)

-- ---- the numbers of the records

module _ {A : Type 0} (number : A → ℕ) where
  abbrev pub numbers : List (Slot A) → List ℕ
  numbers ps = map number (lives ps)

  pub number_placed : (a : A) (ps : List (Slot A)) {n : ℕ} → Mem n (numbers (placed a ps)) → (n ≡ number a) ⊎ Mem n (numbers ps)
  number_placed a ps m =
      let r = mem_map number (lives (placed a ps)) m in ⊎_elim (λ e. inl (r.2 ∙ ap number e)) (λ k. inr (mem_by number r.2 k)) (in_placed a ps r.1)

  pub placed_number : (a : A) (ps : List (Slot A)) {n : ℕ} → Mem n (numbers ps) → Mem n (numbers (placed a ps))
  placed_number a ps m = let r = mem_map number (lives ps) m in mem_by number r.2 (placed_old a ps r.1)

  pub number_retained : (f : A → Bool) (ps : List (Slot A)) {n : ℕ} → Mem n (numbers (retained f ps)) → Mem n (numbers ps)
  number_retained f ps m = let r = mem_map number (lives (retained f ps)) m in mem_by number r.2 (in_retained f ps r.1).0

  pub in_freed : (f : A → Bool) (ps : List (Slot A)) {b : A} → Mem b (lives (exchanged f free ps)) → Mem b (lives ps)
  in_freed f ps m = ⊎_elim (λ q. absurd (let z : ◌≡◌ {A = ℕ} 0 1 = cc in omega arith)) (λ k. k) (in_exchanged f free ps m)

  pub number_freed : (f : A → Bool) (ps : List (Slot A)) {n : ℕ} → Mem n (numbers (exchanged f free ps)) → Mem n (numbers ps)
  number_freed f ps m = let r = mem_map number (lives (exchanged f free ps)) m in mem_by number r.2 (in_freed f ps r.1)

  -- a new record with a new number; fewer records; another record with the same number
  pub distinct_placed : (a : A) (ps : List (Slot A)) → (Mem (number a) (numbers ps) → ⊥) → distinct (numbers ps) ≡ true → distinct (numbers (placed a ps)) ≡ true
  unfolding placed lives
  distinct_placed a [] h d = d
  distinct_placed a (free ∷ ps) h d = distinct_cons (number a) (numbers ps) h d
  distinct_placed a (live c ∷ ps) h d =
      distinct_cons (number c) (numbers (placed a ps))
      (λ m. ⊎_elim (λ e. h (here (sym e))) (distinct_head (number c) (numbers ps) d) (number_placed a ps m))
      (distinct_placed a ps (λ m. h (there m)) (distinct_tail _ (numbers ps) d))

  pub distinct_retained : (f : A → Bool) (ps : List (Slot A)) → distinct (numbers ps) ≡ true → distinct (numbers (retained f ps)) ≡ true
  unfolding retained lives
  distinct_retained f [] d = d
  distinct_retained f (free ∷ ps) d = distinct_retained f ps d
  distinct_retained f (live c ∷ ps) d =
      let rest = distinct_retained f ps (distinct_tail _ (numbers ps) d) in
      on_if (λ (p : Slot A). distinct (numbers (p ∷ retained f ps)) ≡ true) (f c) (live c) free
      (λ t. distinct_cons (number c) (numbers (retained f ps)) (λ m. distinct_head (number c) (numbers ps) d (number_retained f ps m)) rest)
      (λ t. rest)

  pub distinct_freed : (f : A → Bool) (ps : List (Slot A)) → distinct (numbers ps) ≡ true → distinct (numbers (exchanged f free ps)) ≡ true
  unfolding exchanged lives
  distinct_freed f [] d = d
  distinct_freed f (free ∷ ps) d = distinct_freed f ps d
  distinct_freed f (live c ∷ ps) d =
      on_if (λ (qs : List (Slot A)). distinct (numbers qs) ≡ true) (f c) (free ∷ ps) (live c ∷ exchanged f free ps)
      (λ t. distinct_tail _ (numbers ps) d)
      (λ t. distinct_cons (number c) (numbers (exchanged f free ps)) (λ m. distinct_head (number c) (numbers ps) d (number_freed f ps m)) (distinct_freed f ps (distinct_tail _ (numbers ps) d)))

  pub same_numbers : (a : A) (ps : List (Slot A)) → numbers (exchanged (λ c. eqb (number c) (number a)) (live a) ps) ≡ numbers ps
  unfolding exchanged lives
  same_numbers a [] = refl
  same_numbers a (free ∷ ps) = same_numbers a ps
  same_numbers a (live c ∷ ps) =
      on_if (λ (qs : List (Slot A)). numbers qs ≡ number c ∷ numbers ps) (eqb (number c) (number a)) (live a ∷ ps) (live c ∷ exchanged (λ c. eqb (number c) (number a)) (live a) ps)
      (λ t. ap (λ (n : ℕ). n ∷ numbers ps) (sym (eqb-true (number c) (number a) t)))
      (λ t. ap (λ (ns : List ℕ). number c ∷ ns) (same_numbers a ps))

  -- a number is found where it stands; where numbers are distinct, at the one record that has it
  pub found_some : (n : ℕ) (ps : List (Slot A)) → Mem n (numbers ps) → (a : A) × (found (λ c. eqb (number c) n) ps ≡ live a)
  unfolding found lives
  found_some n [] m = elim m [ ]
  found_some n (free ∷ ps) m = found_some n ps m
  found_some n (live c ∷ ps) (here e) = (c, rw (eq-eqb (number c) n (sym e)))
  found_some n (live c ∷ ps) (there m) =
      on_if (λ (p : Slot A). (a : A) × (p ≡ live a)) (eqb (number c) n) (live c) (found (λ c. eqb (number c) n) ps) (λ t. (c, refl)) (λ t. found_some n ps m)

  pub only_one : (ps : List (Slot A)) → distinct (numbers ps) ≡ true → {a b : A} → Mem a (lives ps) → Mem b (lives ps) → number a ≡ number b → a ≡ b
  unfolding lives
  only_one [] d {a = a} {b = b} m k q = elim m [ ]
  only_one (free ∷ ps) d m k q = only_one ps d m k q
  only_one (live c ∷ ps) d (here e) (here f) q = e ∙ sym f
  only_one (live c ∷ ps) d (here e) (there k) q = absurd (distinct_head (number c) (numbers ps) d (mem_by number (ap number (sym e) ∙ q) k))
  only_one (live c ∷ ps) d (there m) (here f) q = absurd (distinct_head (number c) (numbers ps) d (mem_by number (ap number (sym f) ∙ sym q) m))
  only_one (live c ∷ ps) d (there m) (there k) q = only_one ps (distinct_tail _ (numbers ps) d) m k q
