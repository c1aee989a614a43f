-- A loop that reads things of a body one after the other: what holds of those read so far. Assumes nothing.
use Prim.Native.Nat.{ℕ, ◌-◌, ◌≤◌, ◌<◌}
use native.Mathlib.Omega.{arith}
use mathlib.Core.Path.{◌≡◌, refl, sym, ap, ◌∙◌, subst}
use mathlib.Core.List.{List, [], ◌∷◌, ◌++◌, append-nil}
use lib.ListN.{drop}
use lib.Seq.{append_snoc}
use Rattle.rules.specs.Number.{Read, got, bad}
use Rattle.rules.specs.Request.{Reader, follow, give, times}
use Rattle.body.proofs.Pairs.{joined, times_end, times_lost, times_next}

module _ {A : Type 0} (p : Reader A) where
  taken_apart : (a : A) (r : Read (List A)) (rest : List A) (later : List ℕ) → joined p a r ≡ got rest later → (after : List A) × (a ∷ after ≡ rest) × (r ≡ got after later)
  unfolding follow give
  taken_apart a (got xs l) rest later e = (xs, cc, cc)
  taken_apart a bad rest later e = let z : ◌≡◌ {A = ℕ} 0 1 = cc in absurd (omega arith)

  -- all of them, and P of those that are read
  pub record Reading (P : List A → Type 0) (s : List ℕ) (all : List A) (later : List ℕ) (from left : ℕ) : Type 0 where
    pub done : List A
    pub rest : List A
    pub parts : done ++ rest ≡ all
    pub more : times left p (drop from s) ≡ got rest later
    pub holds : P done

  -- where they are all there
  pub record Reads (P : List A → Type 0) (s : List ℕ) (at count from left : ℕ) : Type 0 where
    pub so_far : {all : List A} {later : List ℕ} → times count p (drop at s) ≡ got all later → Reading P s all later from left

  pub reads_begin : (P : List A → Type 0) (s : List ℕ) (at count : ℕ) → P [] → Reads P s at count at count
  reads_begin P s at count h = record { so_far = λ {all} {later} e. record { done = []; rest = all; parts = refl; more = e; holds = h } }

  module _ {P : List A → Type 0} {s : List ℕ} {at count from left : ℕ} (k : Reads P s at count from left) {all : List A} {later : List ℕ} (e : times count p (drop at s) ≡ got all later) where
    pub reads_end : left ≤ 0 → P all
    reads_end h =
        let r = k.so_far e in
        let f : got [] (drop from s) ≡ got r.rest later = sym (times_end p left (drop from s) h) ∙ r.more in
        let none : [] ≡ r.rest = cc in
        subst P (sym (append-nil r.done) ∙ ap (λ (l : List A). r.done ++ l) none ∙ r.parts) r.holds

    pub reads_lost : 0 < left → bad ≡ p (drop from s) → ⊥
    reads_lost h g =
        let b = sym (times_lost p left (drop from s) h g) ∙ (k.so_far e).more in
        let z : ◌≡◌ {A = ℕ} 0 1 = cc in omega arith

  pub reads_next : {P : List A → Type 0} {s : List ℕ} {at count from left : ℕ} → Reads P s at count from left → 0 < left
      → (v : A) (q : ℕ) → got v (drop q s) ≡ p (drop from s) → (Q : List A → Type 0) → ((done : List A) → P done → Q (done ++ (v ∷ []))) → Reads Q s at count q (left - 1)
  reads_next {s = s} {from = from} {left = left} k h v q g Q next = record {
    so_far = λ {all} {later} e.
        let r = k.so_far e in
        let j = taken_apart v (times (left - 1) p (drop q s)) r.rest later (sym (times_next p left (drop from s) (drop q s) v h g) ∙ r.more) in
        record {
          done = r.done ++ (v ∷ []);
          rest = j.0;
          parts = append_snoc r.done v j.0 ∙ ap (λ (l : List A). r.done ++ l) j.1 ∙ r.parts;
          more = j.2;
          holds = next r.done r.holds;
        };
  }
