-- Laws of the lookup by halving, and of the places that move up. Assumes nothing.
use Prim.Native.Nat.{ℕ, suc, ◌+◌, ◌-◌, ◌/◌, ◌≤◌, ◌<◌}
use native.Mathlib.Omega.{arith}
use mathlib.Core.Path.{◌≡◌, refl, sym, ap, ap₂, ◌∙◌}
use mathlib.Core.Bool.{Bool, true, false}
use mathlib.Core.Logic.{⊎_elim}
use mathlib.Core.List.{List, [], ◌∷◌, ◌++◌, append_assoc}
use lib.ListN.{length, take, drop, get_or, set, length-append, length-take, length-drop, take-append-drop}
use lib.Seq.{drop-cons, set_at, take-suc, get_or-append_seam}
use Rattle.std.proofs.lemmas.List.{drop-take, get_or-drop}
use Rattle.std.specs.Prelude.{Some, None}
use Rattle.rules.specs.SidTable.{max_sids}
use Rattle.rules.specs.SidRows.{row_words, less, rank, row_at}
use Rattle.rules.specs.Growth.{Mem}
use Rattle.rules.proofs.Logic.{not_both, either, get_or_mem}
use Rattle.rules.proofs.SidOrder.{less_self, less_total, rank_le, rank_past, rank_upto, rank_found, mem_rank}
use Rattle.rules.proofs.SidWords.{length_at}
use Rattle.sid.specs.Finding.{Sought, FoundAt, shifted}
use Rattle.sid.proofs.Loops.{below_at}

pub record Halving (places rows x : List ℕ) (low n : ℕ) : Type 0 where
  pub sought : Sought places rows x
  pub fits : low + n ≤ length places
  pub atleast : low ≤ rank (row_at rows) x places
  pub atmost : rank (row_at rows) x places ≤ low + n

pub halving_none : (places rows x : List ℕ) → Sought places rows x → Halving places rows x 0 (length places)
halving_none places rows x s = record { sought = s; fits = omega arith; atleast = omega arith; atmost = omega (arith, rank_le (row_at rows) x places) }

module _ {places rows x : List ℕ} {low n : ℕ} (t : Halving places rows x low n) (h : 0 < n) where
  pub middle_in : low + n / 2 < length places
  middle_in = omega (arith, t.fits)

  pub middle_below : get_or places (low + n / 2) 0 < max_sids
  middle_below = below_at max_sids places (low + n / 2) t.sought.below middle_in

  pub halving_behind : {b : Bool} → b ≡ less (row_at rows (get_or places (low + n / 2) 0)) x → b ≡ true → Halving places rows x (low + n / 2 + 1) (n - n / 2 - 1)
  halving_behind e q =
      let k : low + n / 2 < rank (row_at rows) x places = rank_past (row_at rows) x places t.sought.rises (low + n / 2) middle_in (sym e ∙ q) in
      record { sought = t.sought; fits = omega (arith, t.fits); atleast = omega arith; atmost = omega (arith, t.atmost) }

  pub halving_before : {b : Bool} → b ≡ less (row_at rows (get_or places (low + n / 2) 0)) x → b ≡ false → Halving places rows x low (n / 2)
  halving_before e q =
      let k : rank (row_at rows) x places ≤ low + n / 2 = rank_upto (row_at rows) x places (low + n / 2) middle_in (sym e ∙ q) in
      record { sought = t.sought; fits = omega (arith, t.fits); atleast = omega (arith, t.atleast); atmost = omega arith }

-- ---- found or not

module _ (places rows x : List ℕ) (s : Sought places rows x) {k : ℕ} (e : k ≡ rank (row_at rows) x places) where
  at_rank : (i : ℕ) → Mem i places → row_at rows i ≡ x → get_or places k 0 ≡ i
  at_rank i m q = ap (λ (j : ℕ). get_or places j 0) e ∙ rank_found (row_at rows) x places s.rises i m q

  -- past all of them
  pub found_none : length places ≤ k → FoundAt places rows x None
  found_none h = record { there = tt; only = λ i m q. absurd (omega (arith, mem_rank (row_at rows) x places s.rises i m q)) }

  module _ (l : k < length places) {a : Bool} (f : a ≡ less x (row_at rows (get_or places k 0))) where
    -- the row there is after x
    pub found_after : a ≡ true → FoundAt places rows x None
    found_after t = record {
      there = tt;
      only = λ i m q. absurd (not_both (sym f ∙ t) (ap₂ less (sym q) (ap (row_at rows) (at_rank i m q)) ∙ less_self (row_at rows i)));
    }

    -- the row there is x
    pub found_it : a ≡ false → FoundAt places rows x (Some (get_or places k 0))
    found_it t = record {
      there = (get_or_mem places k 0 l, less_total (row_at rows (get_or places k 0)) x (long_row ∙ sym s.wide) not_before (sym f ∙ t));
      only = λ i m q. ap Some (at_rank i m q);
    }
      where
        long_row : length (row_at rows (get_or places k 0)) ≡ row_words
        long_row = length_at rows (get_or places k 0) s.long (below_at max_sids places k s.below l)

        not_before : less (row_at rows (get_or places k 0)) x ≡ false
        not_before = ⊎_elim (λ b. absurd (omega (arith, e, rank_past (row_at rows) x places s.rises k l b))) (λ b. b) (either (less (row_at rows (get_or places k 0)) x))

-- ---- a new place

-- a turn stores what is carried at place k + j, and carries on what stood there
module _ (p : List ℕ) (k new j : ℕ) where
  abbrev moved : List ℕ
  moved = new ∷ drop k p

  before_long : k + j < length p → length (take k p ++ take j moved) ≡ k + j
  before_long h = simp (length-append, length-take, length-drop) (omega arith)

  up_one : {out : List ℕ} {next : ℕ} → k + j < length p → out ≡ take k p ++ (take j moved ++ drop (k + j) p) → next ≡ get_or moved j 0
      → (set out (k + j) next ≡ take k p ++ (take (suc j) moved ++ drop (suc (k + j)) p)) × (get_or out (k + j) 0 ≡ get_or moved (suc j) 0)
  up_one {out} {next} h e f =
      let y : ℕ = get_or p (k + j) 0 in
      let ys : List ℕ = drop (suc (k + j)) p in
      let before : List ℕ = take k p ++ take j moved in
      let whole : out ≡ before ++ (y ∷ ys) =
      e ∙ ap (λ (t : List ℕ). take k p ++ (take j moved ++ t)) (drop-cons p (k + j) 0 h) ∙ sym (append_assoc (take k p) (take j moved) (y ∷ ys)) in
      let longer : take (suc j) moved ≡ take j moved ++ (next ∷ []) = take-suc moved j 0 (simp length-drop (omega arith)) ∙ ap (λ (n : ℕ). take j moved ++ (n ∷ [])) (sym f) in (
        ap (λ (t : List ℕ). set t (k + j) next) whole
            ∙ set_at before y ys next (k + j) (before_long h)
            ∙ append_assoc (take k p) (take j moved) (next ∷ ys)
            ∙ ap (λ (t : List ℕ). take k p ++ t) (sym (append_assoc (take j moved) (next ∷ []) ys) ∙ ap (λ (t : List ℕ). t ++ ys) (sym longer)),
        ap (λ (t : List ℕ). get_or t (k + j) 0) whole
            ∙ ap (λ (m : ℕ). get_or (before ++ (y ∷ ys)) m 0) (sym (before_long h))
            ∙ get_or-append_seam before y ys 0
            ∙ sym (get_or-drop k p j 0),
      )

pub record Carried (p : List ℕ) (n k new : ℕ) (out : List ℕ) (next i : ℕ) : Type 0 where
  pub inside : n < length p
  pub low : k ≤ i
  pub high : i ≤ n + 1
  pub places : out ≡ take k p ++ (take (i - k) (new ∷ drop k p) ++ drop i p)
  pub carries : next ≡ get_or (new ∷ drop k p) (i - k) 0

pub carried_none : (p : List ℕ) (n k new : ℕ) → k ≤ n → n < length p → Carried p n k new p new k
carried_none p n k new h l =
    let none : k - k ≡ 0 = omega arith in
    record { inside = l; low = omega arith; high = omega arith; places = rw none (sym (take-append-drop k p)); carries = rw none refl }

pub carried_more : {p : List ℕ} {n k new : ℕ} {out : List ℕ} {next i : ℕ} → Carried p n k new out next i → i < n + 1 → Carried p n k new (set out i next) (get_or out i 0) (i + 1)
carried_more {p} {n} {k} {new} {out} {next} {i} t h =
    let here : k + (i - k) ≡ i = omega (arith, t.low) in
    let beyond : i + 1 - k ≡ suc (i - k) = omega (arith, t.low) in
    let up : suc i ≡ i + 1 = omega arith in
    let one = up_one p k new (i - k) {out = out} {next = next} (omega (arith, t.inside, t.low)) (rw here t.places) t.carries in
    record {
      inside = t.inside;
      low = omega (arith, t.low);
      high = omega arith;
      places = rw (beyond, ← up) (rw here at one.0);
      carries = rw beyond (rw here at one.1);
    }

pub carried_done : {p : List ℕ} {n k new : ℕ} {out : List ℕ} {next i : ℕ} → Carried p n k new out next i → k ≤ n → n + 1 ≤ i → out ≡ shifted n k new p
unfolding shifted
carried_done {p} {n} {k} {new} {out} {next} {i} t h l =
    let e : i ≡ n + 1 = omega (arith, t.high) in
    let many : i - k ≡ suc (n - k) = omega arith in
    let front : take (n - k) (drop k p) ≡ drop k (take n p) = sym (drop-take k (n - k) p) ∙ ap (λ (m : ℕ). drop k (take m p)) {x = k + (n - k)} {y = n} (omega arith) in
    t.places ∙ rw (many, e, front) refl

pub place_inside : (places rows x : List ℕ) {k : ℕ} → Sought places rows x → k < length places → get_or places k 0 < max_sids
place_inside places rows x {k} s l = below_at max_sids places k s.below l
