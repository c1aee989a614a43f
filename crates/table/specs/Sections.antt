-- A list in sections of fixed sizes, one after the other: a section is read and changed in its place, whatever stands around it.
-- Assumes nothing.
use Rattle.std.specs.Prelude.{◌≡◌, take, drop}
use Rattle.std.proofs.Math.Path.{refl, ap}
use Rattle.std.proofs.Common.{sym, ap₂, ◌∙◌, not-suc-le-zero, zero-add, add_assoc, length-set}
use mathlib.Core.List.{List, [], ◌∷◌, ◌++◌, map}
use Prim.Native.Nat.{ℕ, zero, suc, ◌+◌, ◌<◌}
use Rattle.std.proofs.Math.ListN.{length, get_or, set, length-append, get_or-append}
use Rattle.std.proofs.Math.Seq.{take_at, drop-append-add, get_or-append-add, set-append_left}
use Rattle.table.specs.Lists.{set_append_add}
use Rattle.table.specs.Table.{flat}

abbrev pub total : List ℕ → ℕ
total [] = 0
total (n ∷ ns) = n + total ns

-- where section k begins
abbrev pub place_of : List ℕ → ℕ → ℕ
place_of ns zero = 0
place_of [] (suc k) = 0
place_of (n ∷ ns) (suc k) = n + place_of ns k

module _ {A : Type 0} where
  abbrev pub joined : List (List A) → List A
  joined xss = flat (λ (xs : List A). xs) xss

  abbrev pub section : List ℕ → ℕ → List A → List A
  section sizes k ws = take (get_or sizes k 0) (drop (place_of sizes k) ws)

  -- ws is made of the sections xss, which have these sizes
  pub record Sectioned (sizes : List ℕ) (xss : List (List A)) (ws : List A) : Type 0 where
    pub words : ws ≡ joined xss
    pub fixed : map length xss ≡ sizes

  -- ---- one section

  length_joined : (xss : List (List A)) → length (joined xss) ≡ total (map length xss)
  unfolding flat
  length_joined [] = refl
  length_joined (xs ∷ xss) = length-append xs (joined xss) ∙ ap (λ (n : ℕ). length xs + n) (length_joined xss)

  part_joined : (xss : List (List A)) (k : ℕ) → section (map length xss) k (joined xss) ≡ get_or xss k []
  unfolding flat
  part_joined [] k = refl
  part_joined (xs ∷ xss) zero = take_at xs (joined xss) (length xs) refl
  part_joined (xs ∷ xss) (suc k) =
      ap (take (get_or (map length xss) k 0)) (drop-append-add xs (joined xss) (place_of (map length xss) k)) ∙ part_joined xss k

  word_joined : (xss : List (List A)) (k i : ℕ) (z : A) → i < get_or (map length xss) k 0
      → get_or (joined xss) (place_of (map length xss) k + i) z ≡ get_or (get_or xss k []) i z
  unfolding flat
  word_joined [] k i z h = absurd (not-suc-le-zero h)
  word_joined (xs ∷ xss) zero i z h = ap (λ (j : ℕ). get_or (xs ++ joined xss) j z) (zero-add i) ∙ get_or-append xs (joined xss) z i h
  word_joined (xs ∷ xss) (suc k) i z h =
      let n : ℕ = place_of (map length xss) k in
      ap (λ (j : ℕ). get_or (xs ++ joined xss) j z) (add_assoc (length xs) n i)
      ∙ get_or-append-add xs (joined xss) (n + i) z
      ∙ word_joined xss k i z h

  set_joined : (xss : List (List A)) (k i : ℕ) (v : A) → i < get_or (map length xss) k 0
      → set (joined xss) (place_of (map length xss) k + i) v ≡ joined (set xss k (set (get_or xss k []) i v))
  unfolding flat
  set_joined [] k i v h = absurd (not-suc-le-zero h)
  set_joined (xs ∷ xss) zero i v h = ap (λ (j : ℕ). set (xs ++ joined xss) j v) (zero-add i) ∙ set-append_left xs (joined xss) i v h
  set_joined (xs ∷ xss) (suc k) i v h =
      let n : ℕ = place_of (map length xss) k in
      ap (λ (j : ℕ). set (xs ++ joined xss) j v) (add_assoc (length xs) n i)
      ∙ set_append_add xs (joined xss) (n + i) v
      ∙ ap (λ (l : List A). xs ++ l) (set_joined xss k i v h)

  lengths_kept : (xss : List (List A)) (k i : ℕ) (v : A) → map length (set xss k (set (get_or xss k []) i v)) ≡ map length xss
  lengths_kept [] k i v = refl
  lengths_kept (xs ∷ xss) zero i v = ap (λ (n : ℕ). n ∷ map length xss) (length-set xs i v)
  lengths_kept (xs ∷ xss) (suc k) i v = ap (λ (ns : List ℕ). length xs ∷ ns) (lengths_kept xss k i v)

  -- ---- the list that is made of them

  module _ {sizes : List ℕ} {xss : List (List A)} {ws : List A} (s : Sectioned sizes xss ws) where
    pub sections_long : length ws ≡ total sizes
    sections_long = ap length s.words ∙ length_joined xss ∙ ap total s.fixed

    pub section_long : (k : ℕ) → get_or (map length xss) k 0 ≡ get_or sizes k 0
    section_long k = ap (λ (ns : List ℕ). get_or ns k 0) s.fixed

    pub section_part : (k : ℕ) → section sizes k ws ≡ get_or xss k []
    section_part k = ap₂ (λ (ns : List ℕ) (l : List A). section ns k l) (sym s.fixed) s.words ∙ part_joined xss k

    pub section_word : (k i : ℕ) (z : A) → i < get_or sizes k 0 → get_or ws (place_of sizes k + i) z ≡ get_or (get_or xss k []) i z
    section_word k i z h =
        ap₂ (λ (ns : List ℕ) (l : List A). get_or l (place_of ns k + i) z) (sym s.fixed) s.words ∙ word_joined xss k i z (rw (section_long k) h)

    pub section_set : (k i : ℕ) (v : A) → i < get_or sizes k 0 → Sectioned sizes (set xss k (set (get_or xss k []) i v)) (set ws (place_of sizes k + i) v)
    section_set k i v h = record {
      words = ap₂ (λ (ns : List ℕ) (l : List A). set l (place_of ns k + i) v) (sym s.fixed) s.words ∙ set_joined xss k i v (rw (section_long k) h);
      fixed = lengths_kept xss k i v ∙ s.fixed;
    }
