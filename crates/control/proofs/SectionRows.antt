-- A row of a section of rows, in words that are made of sections: a word of it, stored. Assumes nothing.
use Prim.Native.Nat.{ℕ, ◌+◌, ◌*◌, ◌≤◌, ◌<◌}
use native.Mathlib.Omega.{arith}
use mathlib.Core.Path.{◌≡◌, ◌∙◌}
use mathlib.Core.List.{List, []}
use lib.ListN.{length, get_or, set, length-set}
use lib.Seq.{set-get_or, set-set, get_or-set_same}
use Rattle.table.specs.Table.{flat, put_record, put_element, put_back}
use Rattle.table.specs.Sections.{Sectioned, place_of, section_set}

module _ {A : Type 0} (row : A → List ℕ) (w : ℕ) where
  -- the sections, but that row s of section k is r
  pub record RowIn (sizes : List ℕ) (xss : List (List ℕ)) (k : ℕ) (xs : List A) (s : ℕ) (r ws : List ℕ) : Type 0 where
    pub words : Sectioned sizes (set xss k (put_record w s r (flat row xs))) ws
    pub long : length r ≡ w
    pub among : s < length xs
    pub room : s * w + w ≤ get_or sizes k 0
    pub behind : s * w ≤ length (flat row xs)
    pub section : k < length xss

-- as it stands
pub own_row : {A : Type 0} (row : A → List ℕ) (w : ℕ) → ((x : A) → length (row x) ≡ w) → {sizes : List ℕ} {xss : List (List ℕ)} {ws : List ℕ} (k : ℕ) (xs : List A) (s : ℕ) (z : A)
    → Sectioned sizes xss ws → get_or xss k [] ≡ flat row xs → s < length xs → s * w + w ≤ get_or sizes k 0 → s * w ≤ length (flat row xs) → k < length xss
    → RowIn row w sizes xss k xs s (row (get_or xs s z)) ws
own_row row w wide k xs s z i e among room behind section = record {
  words = rw (put_back row w wide s xs z among, ← e, set-get_or) i;
  long = wide (get_or xs s z);
  among = among;
  room = room;
  behind = behind;
  section = section;
}

-- one word of it stored
pub row_stored : {A : Type 0} {row : A → List ℕ} {w : ℕ} {sizes : List ℕ} {xss : List (List ℕ)} {k : ℕ} {xs : List A} {s : ℕ} {r ws : List ℕ} (j v : ℕ) → j < w
    → RowIn row w sizes xss k xs s r ws → RowIn row w sizes xss k xs s (set r j v) (set ws (place_of sizes k + (s * w + j)) v)
row_stored {row = row} {w} {xss = xss} {k} {xs} {s} {r} j v h x = record {
  words =
      rw (get_or-set_same xss k (put_record w s r (flat row xs)) [] x.section, set-set, put_element w s j r (flat row xs) v x.behind (omega (arith, x.long)))
      at (section_set x.words k (s * w + j) v (omega (arith, x.room)));
  long = length-set r j v ∙ x.long;
  among = x.among;
  room = x.room;
  behind = x.behind;
  section = x.section;
}
