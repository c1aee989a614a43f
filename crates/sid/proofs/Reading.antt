-- Laws of reading a packed SID at a place. Assumes nothing.
use Prim.Native.Nat.{ℕ, zero, suc, ◌+◌, ◌*◌, ◌-◌, ◌≤◌, ◌<◌, ◌^◌}
use native.Mathlib.Numerals.{add-one}
use native.Mathlib.Omega.{arith}
use mathlib.Core.Path.{◌≡◌, refl, sym, ap, ap₂, ◌∙◌}
use mathlib.Core.Bool.{Bool, true, false}
use mathlib.Core.Logic.{◌⊎◌}
use mathlib.Core.List.{List, [], ◌∷◌, ◌++◌}
use lib.Dec.{leb}
use lib.ListN.{length, take, drop, get_or, set, length-set, length-drop, replicate, get_or-eq_default}
use lib.Seq.{drop-cons, take_all, drop-drop, take-suc, take-suc-set, get_or-drop}
use borrow.Author.Tests.{eq-eqb, ne_eqb, le-leb, lt-leb}
use Rattle.std.specs.Prelude.{if◌then◌else◌, Option, Some, None, is_some}
use Rattle.rules.specs.Basic.{word32}
use Rattle.rules.specs.Sid.{max_subs, from_bytes, sid_size, is_packed, subs_in, sid_in}
use Rattle.rules.specs.SidRows.{row_words, pairs, sid_row}
use Rattle.rules.proofs.Sids.{length_subs_in, long_8, revision_1, count_15, whole, length_row}
use Rattle.sid.specs.Reading.{packed_size}

-- ---- four bytes

four_list : (s : List ℕ) (at : ℕ) → at + 4 ≤ length s → take 4 (drop at s) ≡ get_or s at 0 ∷ get_or s (at + 1) 0 ∷ get_or s (at + 2) 0 ∷ get_or s (at + 3) 0 ∷ []
four_list s at h =
    ap (take 4) (drop-cons s at 0 (omega arith)
    ∙ ap (λ (l : List ℕ). get_or s at 0 ∷ l) (one (at + 1) (suc at) (omega arith) (omega arith)
    ∙ ap (λ (l : List ℕ). get_or s (at + 1) 0 ∷ l) (one (at + 2) (suc (at + 1)) (omega arith) (omega arith)
    ∙ ap (λ (l : List ℕ). get_or s (at + 2) 0 ∷ l) (one (at + 3) (suc (at + 2)) (omega arith) (omega arith)))))
  where
    one : (k j : ℕ) → j ≡ k → k < length s → drop j s ≡ get_or s k 0 ∷ drop (suc k) s
    one k j e l = ap (λ (i : ℕ). drop i s) e ∙ drop-cons s k 0 l

from_four : (a b c d : ℕ) → from_bytes (a ∷ b ∷ c ∷ d ∷ []) ≡ a + 256 * (b + 256 * (c + 256 * d))
unfolding from_bytes
from_four a b c d = omega arith

pub four_value : (s : List ℕ) (at : ℕ) {r : ℕ} → at + 4 ≤ length s → r ≡ get_or s at 0 + get_or s (at + 1) 0 * 256 + get_or s (at + 2) 0 * 65536 + get_or s (at + 3) 0 * 16777216
    → r ≡ from_bytes (take 4 (drop at s))
four_value s at h e = omega (arith, e, from_four (get_or s at 0) (get_or s (at + 1) 0) (get_or s (at + 2) 0) (get_or s (at + 3) 0), ap from_bytes (four_list s at h))

-- ---- the size

module _ (bytes : List ℕ) where
  pub size_short : length bytes < 8 → None ≡ packed_size bytes
  unfolding packed_size is_packed
  size_short h = rw (lt-leb 8 (length bytes) h)

  module _ (l : 8 ≤ length bytes) where
    pub size_revision : (get_or bytes 0 0 ≡ 1 → ⊥) → None ≡ packed_size bytes
    unfolding packed_size is_packed
    size_revision ne = rw (le-leb 8 (length bytes) l, ne_eqb (get_or bytes 0 0) 1 ne)

    module _ (r : get_or bytes 0 0 ≡ 1) (n : ℕ) (e : n ≡ get_or bytes 1 0) where
      pub size_count : max_subs < n → None ≡ packed_size bytes
      unfolding packed_size is_packed
      size_count h = rw (le-leb 8 (length bytes) l, eq-eqb (get_or bytes 0 0) 1 r, lt-leb (get_or bytes 1 0) max_subs (omega arith))

      module _ (few : n ≤ max_subs) where
        fits : leb (get_or bytes 1 0) max_subs ≡ true
        fits = le-leb (get_or bytes 1 0) max_subs (omega arith)

        pub size_cut : length bytes < 8 + 4 * n → None ≡ packed_size bytes
        unfolding packed_size is_packed sid_size
        size_cut h = rw (le-leb 8 (length bytes) l, eq-eqb (get_or bytes 0 0) 1 r, fits, lt-leb (8 + 4 * get_or bytes 1 0) (length bytes) (omega arith))

        pub size_whole : 8 + 4 * n ≤ length bytes → Some (8 + 4 * n) ≡ packed_size bytes
        unfolding packed_size is_packed sid_size
        size_whole h =
            rw (le-leb 8 (length bytes) l, eq-eqb (get_or bytes 0 0) 1 r, fits, le-leb (8 + 4 * get_or bytes 1 0) (length bytes) (omega arith)) (ap (λ (k : ℕ). Some (8 + 4 * k)) e)

  -- ---- for the callers: a size is the packed SID's that is read there, and None says that none is

  pub size_none : None ≡ packed_size bytes → is_packed bytes ≡ false
  unfolding packed_size
  size_none h = by (is_packed bytes) refl h
    where
      by : (b : Bool) → is_packed bytes ≡ b → None ≡ (if b then Some (sid_size bytes) else None) → is_packed bytes ≡ false
      by true e q = cc
      by false e q = e

  pub size_some : {n : ℕ} → Some n ≡ packed_size bytes → is_packed bytes ≡ true
  unfolding packed_size
  size_some {n} h = by (is_packed bytes) refl h
    where
      by : (b : Bool) → is_packed bytes ≡ b → Some n ≡ (if b then Some (sid_size bytes) else None) → is_packed bytes ≡ true
      by true e q = e
      by false e q = cc

  pub size_is : {n : ℕ} → Some n ≡ packed_size bytes → n ≡ sid_size bytes
  unfolding packed_size
  size_is {n} h = by (is_packed bytes) h
    where
      by : (b : Bool) → Some n ≡ (if b then Some (sid_size bytes) else None) → n ≡ sid_size bytes
      by true q = cc
      by false q = cc

  pub size_tested : {r : Option ℕ} → r ≡ packed_size bytes → is_some r ≡ is_packed bytes
  unfolding packed_size
  size_tested e = ap is_some e ∙ by (is_packed bytes)
    where
      by : (b : Bool) → is_some (if b then Some (sid_size bytes) else None) ≡ b
      by true = refl
      by false = refl

-- nothing stands past the end
pub size_past : (s : List ℕ) (at : ℕ) → (length s < at) ⊎ (length s < length s) → None ≡ packed_size (drop at s)
size_past s at h = size_short (drop at s) (omega (arith, length-drop at s))

-- ---- sub-authorities of a packed SID

module _ (s : List ℕ) (at : ℕ) where
  long : length (drop at s) ≡ length s - at
  long = length-drop at s

  count_there : get_or (drop at s) 1 0 ≡ get_or s (at + 1) 0
  count_there = get_or-drop at s 1 0

  first_there : get_or (drop at s) 0 0 ≡ get_or s at 0
  first_there = get_or-drop at s 0 0 ∙ ap (λ (k : ℕ). get_or s k 0) {x = at + 0} {y = at} (omega arith)

  module _ (p : is_packed (drop at s) ≡ true) where
    pub packed_bounds : (get_or s (at + 1) 0 ≤ max_subs) × (at + 8 + 4 * get_or s (at + 1) 0 ≤ length s)
    unfolding sid_size
    packed_bounds = (omega (arith, count_15 (drop at s) p, count_there), omega (arith, whole (drop at s) p, long_8 (drop at s) p, long, count_there))

subs_at : (n : ℕ) (bytes : List ℕ) (i : ℕ) → i < n → get_or (subs_in n bytes) i 0 ≡ from_bytes (take 4 (drop (4 * i) bytes))
unfolding subs_in
subs_at zero bytes i h = absurd (omega arith)
subs_at (suc n) bytes zero h = refl
subs_at (suc n) bytes (suc i) h =
    subs_at n (drop 4 bytes) i (omega arith)
    ∙ ap (λ (l : List ℕ). from_bytes (take 4 l)) (drop-drop (4 * i) 4 bytes ∙ ap (λ (k : ℕ). drop k bytes) {x = 4 + 4 * i} {y = 4 * suc i} (omega arith))

module _ (s : List ℕ) (at n i : ℕ) (p : is_packed (drop at s) ≡ true) (e : n ≡ get_or s (at + 1) 0) where
  pub sub_room : i < n → at + 8 + 4 * i + 4 ≤ length s
  sub_room h = omega (arith, packed_bounds s at p)

  pub sub_there : {r : ℕ} → i < n → r ≡ from_bytes (take 4 (drop (at + 8 + 4 * i) s)) → r ≡ get_or (sid_in (drop at s)).subs i 0
  unfolding sid_in
  sub_there h q =
      q ∙ ap (λ (l : List ℕ). from_bytes (take 4 l)) (sym (ap (drop (4 * i)) (drop-drop 8 at s) ∙ drop-drop (4 * i) (at + 8) s))
      ∙ sym (subs_at n (drop 8 (drop at s)) i h)
      ∙ ap (λ (k : ℕ). get_or (subs_in k (drop 8 (drop at s))) i 0) (e ∙ sym (count_there s at))

  pub sub_none : n ≤ i → 0 ≡ get_or (sid_in (drop at s)).subs i 0
  unfolding sid_in
  sub_none h = sym (get_or-eq_default (subs_in (get_or (drop at s) 1 0) (drop 8 (drop at s))) 0 (omega (arith, length_subs_in (get_or (drop at s) 1 0) (drop 8 (drop at s)), count_there s at)))

-- ---- the row

pairs_at : (k : ℕ) (ns : List ℕ) (i : ℕ) → i < k → get_or (pairs k ns) i 0 ≡ get_or ns (2 * i) 0 + get_or ns (2 * i + 1) 0 * word32
unfolding pairs
pairs_at zero ns i h = absurd (omega arith)
pairs_at (suc k) ns zero h = refl
pairs_at (suc k) ns (suc i) h =
    let a : get_or (drop 2 ns) (2 * i) 0 ≡ get_or ns (2 * suc i) 0 = get_or-drop 2 ns (2 * i) 0 ∙ ap (λ (j : ℕ). get_or ns j 0) {x = 2 + 2 * i} {y = 2 * suc i} (omega arith) in
    let b : get_or (drop 2 ns) (2 * i + 1) 0 ≡ get_or ns (2 * suc i + 1) 0 = get_or-drop 2 ns (2 * i + 1) 0 ∙ ap (λ (j : ℕ). get_or ns j 0) {x = 2 + (2 * i + 1)} {y = 2 * suc i + 1} (omega arith) in
    pairs_at k (drop 2 ns) i (omega arith) ∙ ap₂ (λ (x y : ℕ). x + y * word32) a b

six_list : (s : List ℕ) (at : ℕ) → at + 8 ≤ length s
    → take 6 (drop 2 (drop at s)) ≡ get_or s (at + 2) 0 ∷ get_or s (at + 3) 0 ∷ get_or s (at + 4) 0 ∷ get_or s (at + 5) 0 ∷ get_or s (at + 6) 0 ∷ get_or s (at + 7) 0 ∷ []
six_list s at h =
    ap (take 6) (drop-drop 2 at s ∙ one (at + 2) (at + 2) refl (omega arith)
    ∙ ap (λ (l : List ℕ). get_or s (at + 2) 0 ∷ l) (one (at + 3) (suc (at + 2)) (omega arith) (omega arith)
    ∙ ap (λ (l : List ℕ). get_or s (at + 3) 0 ∷ l) (one (at + 4) (suc (at + 3)) (omega arith) (omega arith)
    ∙ ap (λ (l : List ℕ). get_or s (at + 4) 0 ∷ l) (one (at + 5) (suc (at + 4)) (omega arith) (omega arith)
    ∙ ap (λ (l : List ℕ). get_or s (at + 5) 0 ∷ l) (one (at + 6) (suc (at + 5)) (omega arith) (omega arith)
    ∙ ap (λ (l : List ℕ). get_or s (at + 6) 0 ∷ l) (one (at + 7) (suc (at + 6)) (omega arith) (omega arith)))))))
  where
    one : (k j : ℕ) → j ≡ k → k < length s → drop j s ≡ get_or s k 0 ∷ drop (suc k) s
    one k j e l = ap (λ (i : ℕ). drop i s) e ∙ drop-cons s k 0 l

from_eight : (n a b c d e f : ℕ) → from_bytes (1 ∷ n ∷ a ∷ b ∷ c ∷ d ∷ e ∷ f ∷ []) ≡ 1 + 256 * (n + 256 * (a + 256 * b)) + (c + 256 * (d + 256 * (e + 256 * f))) * word32
unfolding from_bytes
from_eight n a b c d e f = omega arith

module _ (s : List ℕ) (at : ℕ) (p : is_packed (drop at s) ≡ true) where
  pub load_room : at + 8 ≤ length s
  load_room = omega (arith, packed_bounds s at p)

  pub load_low : at + 4 ≤ length s
  load_low = omega (arith, load_room)

  pub load_high : at + 4 + 4 ≤ length s
  load_high = omega (arith, load_room)

  pub load_one : at + 1 < length s
  load_one = omega (arith, load_room)

  pub load_place : length s < 2 ^ 64 → at + 4 < 2 ^ 64
  load_place l = omega (arith, load_room)

  pub load_next : length s < 2 ^ 64 → at + 1 < 2 ^ 64
  load_next l = omega (arith, load_room)

  load_header : (x y : ℕ) → x ≡ from_bytes (take 4 (drop at s)) → y ≡ from_bytes (take 4 (drop (at + 4) s)) → x + y * word32 ≡ get_or (sid_row (sid_in (drop at s))) 0 0
  unfolding sid_row sid_in
  load_header x y ex ey =
      let g : ℕ → ℕ = λ k. get_or s (at + k) 0 in
      let low : x ≡ get_or s at 0 + 256 * (get_or s (at + 1) 0 + 256 * (get_or s (at + 2) 0 + 256 * get_or s (at + 3) 0)) =
      ex ∙ ap from_bytes (four_list s at (omega (arith, load_room))) ∙ from_four (get_or s at 0) (get_or s (at + 1) 0) (get_or s (at + 2) 0) (get_or s (at + 3) 0) in
      let high : y ≡ get_or s (at + 4) 0 + 256 * (get_or s (at + 5) 0 + 256 * (get_or s (at + 6) 0 + 256 * get_or s (at + 7) 0)) =
      ey ∙ ap from_bytes (four_list s (at + 4) (omega (arith, load_room)))
      ∙ ap₂ (λ (a b : ℕ). from_bytes (get_or s (at + 4) 0 ∷ a ∷ b ∷ get_or s (at + 4 + 3) 0 ∷ [])) (ap (λ (k : ℕ). get_or s k 0) {x = at + 4 + 1} {y = at + 5} (omega arith)) (ap (λ (k : ℕ). get_or s k 0) {x = at + 4 + 2} {y = at + 6} (omega arith))
      ∙ ap (λ (a : ℕ). from_bytes (get_or s (at + 4) 0 ∷ get_or s (at + 5) 0 ∷ get_or s (at + 6) 0 ∷ a ∷ [])) (ap (λ (k : ℕ). get_or s k 0) {x = at + 4 + 3} {y = at + 7} (omega arith))
      ∙ from_four (get_or s (at + 4) 0) (get_or s (at + 5) 0) (get_or s (at + 6) 0) (get_or s (at + 7) 0) in
      let one : get_or s at 0 ≡ 1 = sym (first_there s at) ∙ revision_1 (drop at s) p in
      let count : length (subs_in (get_or (drop at s) 1 0) (drop 8 (drop at s))) ≡ get_or s (at + 1) 0 = length_subs_in (get_or (drop at s) 1 0) (drop 8 (drop at s)) ∙ count_there s at in
      omega (
        arith,
        low,
        high,
        one,
        from_eight (get_or s (at + 1) 0) (get_or s (at + 2) 0) (get_or s (at + 3) 0) (get_or s (at + 4) 0) (get_or s (at + 5) 0) (get_or s (at + 6) 0) (get_or s (at + 7) 0),
        ap₂ (λ (k : ℕ) (l : List ℕ). from_bytes (1 ∷ k ∷ l)) count (six_list s at load_room),
      )

  load_at : (i : ℕ) → 1 ≤ i → i < row_words → get_or (sid_row (sid_in (drop at s))) i 0 ≡ get_or (sid_in (drop at s)).subs (2 * i - 2) 0 + get_or (sid_in (drop at s)).subs (2 * i - 2 + 1) 0 * word32
  unfolding sid_row
  load_at zero l h = absurd (omega arith)
  load_at (suc i) l h =
      pairs_at 8 (sid_in (drop at s)).subs i (omega arith)
      ∙ ap (λ (k : ℕ). get_or (sid_in (drop at s)).subs k 0 + get_or (sid_in (drop at s)).subs (k + 1) 0 * word32) {x = 2 * i} {y = 2 * suc i - 2} (omega arith)

  grown : (i v : ℕ) (row : List ℕ) → length row ≡ row_words → i < row_words → take i row ≡ take i (sid_row (sid_in (drop at s))) → v ≡ get_or (sid_row (sid_in (drop at s))) i 0
      → take (i + 1) (set row i v) ≡ take (i + 1) (sid_row (sid_in (drop at s)))
  grown i v row l h f e =
      ap (λ (k : ℕ). take k (set row i v)) (add-one i)
      ∙ take-suc-set row i v (omega arith)
      ∙ ap₂ (λ (x : List ℕ) (y : ℕ). x ++ (y ∷ [])) f e
      ∙ sym (take-suc (sid_row (sid_in (drop at s))) i 0 (omega (arith, length_row (sid_in (drop at s)))))
      ∙ ap (λ (k : ℕ). take k (sid_row (sid_in (drop at s)))) (sym (add-one i))

pub record Loading (s : List ℕ) (at n : ℕ) (row : List ℕ) (i : ℕ) : Type 0 where
  pub packed : is_packed (drop at s) ≡ true
  pub count : n ≡ get_or s (at + 1) 0
  pub size : length row ≡ row_words
  pub low : 1 ≤ i
  pub high : i ≤ row_words
  pub front : take i row ≡ take i (sid_row (sid_in (drop at s)))

module _ (s : List ℕ) (at : ℕ) where
  pub loading_none : is_packed (drop at s) ≡ true → (n x y : ℕ) → n ≡ get_or s (at + 1) 0 → x ≡ from_bytes (take 4 (drop at s)) → y ≡ from_bytes (take 4 (drop (at + 4) s)) → {v : ℕ} → v ≡ x + y * word32 → Loading s at n (set (replicate 9 0) 0 v) 1
  loading_none p n x y e ex ey {v} ev = record {
    packed = p;
    count = e;
    size = refl;
    low = omega arith;
    high = omega arith;
    front = grown s at p 0 v (replicate 9 0) refl (omega arith) refl (ev ∙ load_header s at p x y ex ey);
  }

  pub loading_more : {n : ℕ} {row : List ℕ} {i : ℕ} → Loading s at n row i → i < row_words → (x y : ℕ) {v : ℕ} → v ≡ x + y * word32
      → x ≡ get_or (sid_in (drop at s)).subs (2 * i - 2) 0 → y ≡ get_or (sid_in (drop at s)).subs (2 * i - 2 + 1) 0 → Loading s at n (set row i v) (i + 1)
  loading_more {n} {row} {i} t h x y {v} ev ex ey = record {
    packed = t.packed;
    count = t.count;
    size = length-set row i v ∙ t.size;
    low = omega arith;
    high = omega arith;
    front = grown s at t.packed i v row t.size h t.front (ev ∙ ap₂ (λ (a b : ℕ). a + b * word32) ex ey ∙ sym (load_at s at t.packed i t.low h));
  }

  pub loading_done : {n : ℕ} {row : List ℕ} {i : ℕ} → Loading s at n row i → row_words ≤ i → row ≡ sid_row (sid_in (drop at s))
  loading_done {n} {row} {i} t h =
      sym (take_all i row (omega arith)) ∙ t.front ∙ take_all i (sid_row (sid_in (drop at s))) (omega (arith, length_row (sid_in (drop at s))))
