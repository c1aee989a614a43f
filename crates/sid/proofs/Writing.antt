-- Laws of writing a row as a packed SID. Assumes nothing.
use Prim.Native.Nat.{ℕ, zero, suc, ◌+◌, ◌*◌, ◌-◌, ◌/◌, ◌%◌, ◌≤◌, ◌<◌}
use native.Mathlib.Numerals.{add-one}
use native.Mathlib.Omega.{arith}
use mathlib.Core.Path.{◌≡◌, refl, sym, ap, ap₂, ◌∙◌}
use mathlib.Core.Bool.{Bool, true, false, not}
use mathlib.Core.List.{List, [], ◌∷◌, ◌++◌, append_assoc}
use lib.Dec.{eqb, leb}
use lib.ListN.{length, take, drop, get_or, length-drop, length-take, length-append}
use lib.Seq.{drop-drop, take-suc, take_at, drop_at}
use borrow.Author.Tests.{eq-eqb, ne_eqb, eqb-true, le-leb, lt-leb, leb-true, not-true, not-false}
use Rattle.std.specs.Prelude.{Some, None}
use Rattle.rules.specs.Basic.{word32}
use Rattle.rules.specs.Sid.{max_subs, to_bytes, sub_bytes, packed}
use Rattle.rules.specs.SidRows.{row_words, halves, count_in, row_sid, zero_from, is_row}
use Rattle.rules.proofs.Logic.{and_l, and_r}
use Rattle.rules.proofs.Sids.{length_sub_bytes, length_halves}
use Rattle.sid.specs.Reading.{can_write, Wrote}

four_bytes : (x : ℕ) → x % 256 ∷ x / 256 % 256 ∷ x / 65536 % 256 ∷ x / 16777216 % 256 ∷ [] ≡ to_bytes 4 x
unfolding to_bytes
four_bytes x =
    let a : x / 65536 % 256 ≡ x / 256 / 256 % 256 = omega arith in
    let b : x / 16777216 % 256 ≡ x / 256 / 256 / 256 % 256 = omega arith in
    ap₂ (λ (u v : ℕ). (x % 256) ∷ (x / 256 % 256) ∷ u ∷ v ∷ []) a b

half_low : (ws : List ℕ) (i : ℕ) → i / 2 < length ws → i % 2 ≡ 0 → get_or ws (i / 2) 0 % word32 ≡ get_or (halves ws) i 0
unfolding halves
half_low [] i l e = absurd (omega arith)
half_low (w ∷ ws) zero l e = refl
half_low (w ∷ ws) (suc zero) l e = absurd (omega arith)
half_low (w ∷ ws) (suc (suc i)) l e =
    ap (λ (k : ℕ). get_or (w ∷ ws) k 0 % word32) {x = suc (suc i) / 2} {y = suc (i / 2)} (omega arith) ∙ half_low ws i (omega arith) (omega arith)

half_high : (ws : List ℕ) (i : ℕ) → i / 2 < length ws → (i % 2 ≡ 0 → ⊥) → get_or ws (i / 2) 0 / word32 ≡ get_or (halves ws) i 0
unfolding halves
half_high [] i l e = absurd (omega arith)
half_high (w ∷ ws) zero l e = absurd (e refl)
half_high (w ∷ ws) (suc zero) l e = refl
half_high (w ∷ ws) (suc (suc i)) l e =
    ap (λ (k : ℕ). get_or (w ∷ ws) k 0 / word32) {x = suc (suc i) / 2} {y = suc (i / 2)} (omega arith) ∙ half_high ws i (omega arith) (λ z. e (omega arith))

pub half_even : (row : List ℕ) (i : ℕ) → length row ≡ row_words → i < 18 → i % 2 ≡ 0 → get_or row (i / 2) 0 % word32 ≡ get_or (halves row) i 0
half_even row i l h e = half_low row i (omega arith) e

pub half_odd : (row : List ℕ) (i : ℕ) → length row ≡ row_words → i < 18 → (i % 2 ≡ 0 → ⊥) → get_or row (i / 2) 0 / word32 ≡ get_or (halves row) i 0
half_odd row i l h e = half_high row i (omega arith) e

sub_bytes_snoc : (ns : List ℕ) (n : ℕ) → sub_bytes (ns ++ (n ∷ [])) ≡ sub_bytes ns ++ to_bytes 4 n
unfolding sub_bytes
sub_bytes_snoc [] n = append_none (to_bytes 4 n)
  where
    append_none : (l : List ℕ) → l ++ [] ≡ l
    append_none [] = refl
    append_none (x ∷ xs) = ap (λ (t : List ℕ). x ∷ t) (append_none xs)
sub_bytes_snoc (m ∷ ns) n = ap (λ (l : List ℕ). to_bytes 4 m ++ l) (sub_bytes_snoc ns n) ∙ sym (append_assoc (to_bytes 4 m) (sub_bytes ns) (to_bytes 4 n))

-- ---- a row's first halves are the packed SID

row_few : (row : List ℕ) → is_row row ≡ true → get_or row 0 0 / 256 % 256 ≤ max_subs
unfolding is_row count_in
row_few row h = leb-true (get_or row 0 0 / 256 % 256) max_subs (and_r (eqb (get_or row 0 0 % 256) 1) _ (and_l _ (zero_from (get_or row 0 0 / 256 % 256) (drop 1 row)) h))

-- the bytes of a number of four
module _ {x : ℕ} (a b c d : ℕ) (e : x ≡ a + 256 * b + 65536 * c + 16777216 * d) (la : a < 256) where
  first : x / 256 ≡ b + 256 * c + 65536 * d
  first = omega arith

  byte_0 : x % 256 ≡ a
  byte_0 = omega arith

  module _ (lb : b < 256) where
    second : x / 256 / 256 ≡ c + 256 * d
    second = ap (λ (k : ℕ). k / 256) first ∙ omega arith

    byte_1 : x / 256 % 256 ≡ b
    byte_1 = ap (λ (k : ℕ). k % 256) first ∙ omega arith

    module _ (lc : c < 256) where
      byte_2 : x / 256 / 256 % 256 ≡ c
      byte_2 = ap (λ (k : ℕ). k % 256) second ∙ omega arith

      byte_3 : d < 256 → x / 256 / 256 / 256 % 256 ≡ d
      byte_3 ld = ap (λ (k : ℕ). k / 256 % 256) second ∙ omega arith

upper : (w : ℕ) → w / word32 ≡ w / 65536 / 256 / 256
upper w = omega arith

lower : (w : ℕ) → w % word32 ≡ w % 256 + 256 * (w / 256 % 256) + 65536 * (w / 256 / 256 % 256) + 16777216 * (w / 256 / 256 / 256 % 256)
lower w = omega arith

row_one : (row : List ℕ) → is_row row ≡ true → get_or row 0 0 % 256 ≡ 1
unfolding is_row count_in
row_one row h = eqb-true (get_or row 0 0 % 256) 1 (and_l _ (leb (get_or row 0 0 / 256 % 256) max_subs) (and_l _ (zero_from (get_or row 0 0 / 256 % 256) (drop 1 row)) h))

pub row_packed : (row : List ℕ) → length row ≡ row_words → is_row row ≡ true → sub_bytes (take (get_or row 0 0 / 256 % 256 + 2) (halves row)) ≡ packed (row_sid row)
unfolding halves sub_bytes packed row_sid count_in to_bytes
row_packed [] l h = absurd (omega arith)
row_packed (w ∷ ws) l h = ap (λ (k : ℕ). sub_bytes (take k (halves (w ∷ ws)))) {x = (w / 256 % 256) + 2} {y = suc (suc (w / 256 % 256))} (omega arith) ∙ eight (row_one (w ∷ ws) h) (row_few (w ∷ ws) h)
  where
    eight : w % 256 ≡ 1 → (w / 256 % 256) ≤ max_subs → sub_bytes (take (suc (suc (w / 256 % 256))) (halves (w ∷ ws))) ≡ packed (row_sid (w ∷ ws))
    eight e f =
        let many : length (take (w / 256 % 256) (halves ws)) ≡ (w / 256 % 256) = simp length-take (omega (arith, length_halves ws)) in
        let q2 : w / 65536 ≡ w / 256 / 256 = omega arith in
        let low : w % word32 ≡ w % 256 + 256 * (w / 256 % 256) + 65536 * (w / 256 / 256 % 256) + 16777216 * (w / 256 / 256 / 256 % 256) = lower w in
        let e0 : w % word32 % 256 ≡ 1 = byte_0 (w % 256) (w / 256 % 256) (w / 256 / 256 % 256) (w / 256 / 256 / 256 % 256) low (omega arith) ∙ e in
        let e1 : w % word32 / 256 % 256 ≡ length (take (w / 256 % 256) (halves ws)) =
        byte_1 (w % 256) (w / 256 % 256) (w / 256 / 256 % 256) (w / 256 / 256 / 256 % 256) low (omega arith) (omega arith) ∙ sym many in
        let e2 : w % word32 / 256 / 256 % 256 ≡ w / 65536 % 256 =
        byte_2 (w % 256) (w / 256 % 256) (w / 256 / 256 % 256) (w / 256 / 256 / 256 % 256) low (omega arith) (omega arith) (omega arith) ∙ ap (λ (k : ℕ). k % 256) (sym q2) in
        let e3 : w % word32 / 256 / 256 / 256 % 256 ≡ w / 65536 / 256 % 256 =
        byte_3 (w % 256) (w / 256 % 256) (w / 256 / 256 % 256) (w / 256 / 256 / 256 % 256) low (omega arith) (omega arith) (omega arith) (omega arith) ∙ ap (λ (k : ℕ). k / 256 % 256) (sym q2) in
        let e4 : w / word32 % 256 ≡ w / 65536 / 256 / 256 % 256 = ap (λ (k : ℕ). k % 256) (upper w) in
        let e5 : w / word32 / 256 % 256 ≡ w / 65536 / 256 / 256 / 256 % 256 = ap (λ (k : ℕ). k / 256 % 256) (upper w) in
        let e6 : w / word32 / 256 / 256 % 256 ≡ w / 65536 / 256 / 256 / 256 / 256 % 256 = ap (λ (k : ℕ). k / 256 / 256 % 256) (upper w) in
        let e7 : w / word32 / 256 / 256 / 256 % 256 ≡ w / 65536 / 256 / 256 / 256 / 256 / 256 % 256 = ap (λ (k : ℕ). k / 256 / 256 / 256 % 256) (upper w) in
        cc

-- ---- the loop

pub record Writing (row out₀ : List ℕ) (fours : ℕ) (out : List ℕ) (i : ℕ) : Type 0 where
  pub long : length row ≡ row_words
  pub is : is_row row ≡ true
  pub count : fours ≡ get_or row 0 0 / 256 % 256 + 2
  pub few : fours ≤ 17
  pub room : 4 * fours ≤ length out₀
  pub fits : i ≤ fours
  pub size : length out ≡ length out₀
  pub front : out ≡ sub_bytes (take i (halves row)) ++ drop (4 * i) out₀

pub writing_none : (row out : List ℕ) {r : Bool} → length row ≡ row_words → r ≡ is_row row → not r ≡ false → 4 * (get_or row 0 0 / 256 % 256 + 2) ≤ length out
    → Writing row out (get_or row 0 0 / 256 % 256 + 2) out 0
unfolding sub_bytes
writing_none row out {r} l e h k = let q : is_row row ≡ true = sym e ∙ not-false r h in record {
  long = l;
  is = q;
  count = refl;
  few = omega (arith, row_few row q);
  room = k;
  fits = omega arith;
  size = refl;
  front = refl;
}

pub writing_more : {row out₀ : List ℕ} {fours : ℕ} {out : List ℕ} {i : ℕ} → Writing row out₀ fours out i → i < fours → (x : ℕ) (b : List ℕ) → x ≡ get_or (halves row) i 0 → b ≡ x % 256 ∷ x / 256 % 256 ∷ x / 65536 % 256 ∷ x / 16777216 % 256 ∷ []
    → Writing row out₀ fours (take (4 * i) out ++ (b ++ drop (4 * i + 4 - 4 * i) (drop (4 * i) out))) (i + 1)
writing_more {row} {out₀} {fours} {out} {i} t h x b e f =
    let p : List ℕ = sub_bytes (take i (halves row)) in
    let pl : length p ≡ 4 * i = length_sub_bytes (take i (halves row)) ∙ simp length-take (omega (arith, length_halves row, t.long, t.few)) in
    let low : take (4 * i) out ≡ p = ap (take (4 * i)) t.front ∙ take_at p (drop (4 * i) out₀) (4 * i) pl in
    let high : drop (4 * i + 4 - 4 * i) (drop (4 * i) out) ≡ drop (4 * (i + 1)) out₀ =
    ap₂ drop {x = 4 * i + 4 - 4 * i} {y = 4} (omega arith) (ap (drop (4 * i)) t.front ∙ drop_at p (drop (4 * i) out₀) (4 * i) pl)
    ∙ drop-drop 4 (4 * i) out₀ ∙ ap (λ (k : ℕ). drop k out₀) {x = 4 * i + 4} {y = 4 * (i + 1)} (omega arith) in
    let four : b ≡ to_bytes 4 (get_or (halves row) i 0) = f ∙ four_bytes x ∙ ap (to_bytes 4) e in
    let whole : take (4 * i) out ++ (b ++ drop (4 * i + 4 - 4 * i) (drop (4 * i) out)) ≡ sub_bytes (take (i + 1) (halves row)) ++ drop (4 * (i + 1)) out₀ =
    ap₂ (λ (u v : List ℕ). u ++ v) low (ap₂ (λ (u v : List ℕ). u ++ v) four high)
    ∙ sym (append_assoc p (to_bytes 4 (get_or (halves row) i 0)) (drop (4 * (i + 1)) out₀))
    ∙ ap (λ (l : List ℕ). l ++ drop (4 * (i + 1)) out₀) (sym (sub_bytes_snoc (take i (halves row)) (get_or (halves row) i 0))
    ∙ ap sub_bytes (sym (take-suc (halves row) i 0 (omega (arith, length_halves row, t.long, t.few)))) ∙ ap (λ (k : ℕ). sub_bytes (take k (halves row))) (sym (add-one i))) in
    record {
      long = t.long;
      is = t.is;
      count = t.count;
      few = t.few;
      room = t.room;
      fits = omega arith;
      size = ap length whole ∙ length-append (sub_bytes (take (i + 1) (halves row))) (drop (4 * (i + 1)) out₀)
          ∙ omega (arith, length-drop (4 * (i + 1)) out₀, length_sub_bytes (take (i + 1) (halves row)), length-take (i + 1) (halves row), length_halves row, t.long, t.few, t.room);
      front = whole;
    }

pub length_packed : (row : List ℕ) → length row ≡ row_words → is_row row ≡ true → length (packed (row_sid row)) ≡ 4 * (get_or row 0 0 / 256 % 256 + 2)
length_packed row l h =
    ap length (sym (row_packed row l h)) ∙ length_sub_bytes (take (get_or row 0 0 / 256 % 256 + 2) (halves row)) ∙ simp length-take (omega (arith, length_halves row, row_few row h))

-- ---- nothing written

cannot : (row out : List ℕ) → (length row ≡ row_words → ⊥) → can_write row out ≡ false
unfolding can_write
cannot row out ne = rw (ne_eqb (length row) row_words ne)

not_a_row : (row out : List ℕ) → length row ≡ row_words → is_row row ≡ false → can_write row out ≡ false
unfolding can_write
not_a_row row out l e = rw (eq-eqb (length row) row_words l, e)

too_long : (row out : List ℕ) → length row ≡ row_words → is_row row ≡ true → length out < length (packed (row_sid row)) → can_write row out ≡ false
unfolding can_write
too_long row out l e h = rw (eq-eqb (length row) row_words l, e, lt-leb (length (packed (row_sid row))) (length out) h)

pub it_can : (row out : List ℕ) → length row ≡ row_words → is_row row ≡ true → length (packed (row_sid row)) ≤ length out → can_write row out ≡ true
unfolding can_write
it_can row out l e h = rw (eq-eqb (length row) row_words l, e, le-leb (length (packed (row_sid row))) (length out) h)

refused : (row out : List ℕ) → can_write row out ≡ false → Wrote row out out None
refused row out e = record { size = rw e; bytes = rw e }

pub no_row_size : (row out : List ℕ) → (length row ≡ row_words → ⊥) → Wrote row out out None
no_row_size row out ne = refused row out (cannot row out ne)

pub no_row : (row out : List ℕ) {r : Bool} → length row ≡ row_words → r ≡ is_row row → not r ≡ true → Wrote row out out None
no_row row out {r} l e h = refused row out (not_a_row row out l (sym e ∙ not-true r h))

pub no_room : (row out : List ℕ) {r : Bool} → length row ≡ row_words → r ≡ is_row row → not r ≡ false → length out < 4 * (get_or row 0 0 / 256 % 256 + 2) → Wrote row out out None
no_room row out {r} l e h k = let q : is_row row ≡ true = sym e ∙ not-false r h in refused row out (too_long row out l q (omega (arith, length_packed row l q)))

pub writing_done : {row out₀ : List ℕ} {fours : ℕ} {out : List ℕ} {i : ℕ} → Writing row out₀ fours out i → fours ≤ i → Wrote row out₀ out (Some (4 * fours))
writing_done {row} {out₀} {fours} {out} {i} t h =
    let can : can_write row out₀ ≡ true = it_can row out₀ t.long t.is (omega (arith, length_packed row t.long t.is, t.count, t.room)) in
    let end : 4 * i ≡ 4 * fours = omega (arith, t.fits) in
    let same : i ≡ get_or row 0 0 / 256 % 256 + 2 = omega (arith, t.count, t.fits) in
    let size : 4 * fours ≡ length (packed (row_sid row)) = omega (arith, length_packed row t.long t.is, t.count) in
    record {
      size = rw can (ap Some size);
      bytes = rw can (t.front ∙ ap₂ (λ (u : List ℕ) (k : ℕ). u ++ drop k out₀) (ap (λ (k : ℕ). sub_bytes (take k (halves row))) same ∙ row_packed row t.long t.is) (end ∙ size));
    }
