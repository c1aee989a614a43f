-- A station's row, and a proper part of a frame by its first bytes: the tests come to `stream_test` and `station_test`. Assumes nothing.
use mathlib.Core.Path.{◌≡◌, refl, sym, ap, ap₂, ◌∙◌}
use mathlib.Core.Bool.{Bool, true, false, not, ◌&&◌, and-true, and_assoc, or-true, or-false}
use mathlib.Core.List.{List, [], ◌∷◌}
use Prim.Native.Nat.{ℕ, zero, suc, ◌-◌, ◌*◌, ◌≤◌, ◌<◌}
use native.Mathlib.Nat.{zero-mul, suc-mul}
use native.Mathlib.Omega.{arith}
use borrow.Author.Tests.{ne_eqb, le-ltb, le-leb, lt-leb, eqb-true}
use lib.Dec.{eqb, leb, ltb}
use lib.ListN.{length, take, drop, get_or, length-drop, take-append-drop}
use lib.Seq.{length-take-le, take_all}
use Rattle.std.specs.Simd.{first_chunks}
use Rattle.table.specs.Lists.{pad, named_take}
use Rattle.table.specs.Rows.{test_rows}
use Rattle.rules.specs.Basic.{all, member, is_empty, same, is_zero}
use Rattle.rules.specs.Frame.{length_of, framed_by, framed}
use Rattle.rules.specs.Memory.{station_row, pending_row, station_at, station_words, count_word, broken_word, client_word, level_word, pending_bytes}
use Rattle.rules.specs.Station.{Station}
use Rattle.rules.specs.State.{station_count, client_token}
use Rattle.rules.specs.Valid.{is_byte, is_part, stream_valid, level_valid}
use Rattle.rules.proofs.Logic.{and_l, and_r}
use Rattle.stream.specs.Meaning.{framed_of, FramedAs}
use Rattle.stream.specs.declared.Framed.{Framed}
use Rattle.stream.specs.declared.Framed.TheVariants as what
use Rattle.valid.specs.Tests.{stream_test, level_test, station_test, idle_test}
use Rattle.lists.proofs.Truth.{same_tests, implies_or, all_below_lem, all_append, eqb_same}
use Rattle.token_rows.proofs.Same.{same_pad_take, cut_mark, cut_count}

-- ---- a proper part of a frame, by what its bytes come to

module _ (s : List ℕ) {r : Framed} (f : FramedAs s (length s) r) where
  as_framed : (x : Framed) → r ≡ x → is_part (framed_of s (length s) x) ≡ is_part (framed s)
  as_framed x e = ap (λ y. is_part (framed_of s (length s) y)) (sym e) ∙ ap is_part (f.means ∙ ap framed (take_all (length s) s (omega arith)))

  pub is_part_lem : r ≡ what.Part → true ≡ is_part (framed s)
  unfolding is_part
  is_part_lem e = as_framed what.Part e

  pub is_other : (r ≡ what.Part → ⊥) → false ≡ is_part (framed s)
  unfolding is_part
  is_other n = by r refl
    where
      by : (x : Framed) → r ≡ x → false ≡ is_part (framed s)
      by what.Part e = absurd (n e)
      by what.Broken e = as_framed what.Broken e
      by (what.Whole start) e = as_framed (what.Whole start) e

-- ---- the row

empty_length : {A : Type 0} (xs : List A) → eqb (length xs) 0 ≡ is_empty xs
unfolding is_empty
empty_length [] = refl
empty_length (x ∷ xs) = ne_eqb (suc (length xs)) 0 (λ h. omega arith)

module _ (ws bs : List ℕ) (lw : length ws ≡ station_words) (lb : length bs ≡ pending_bytes) where
  stream_same : stream_test ws bs
      ≡ (leb (get_or ws count_word 0) pending_bytes && ltb (get_or ws broken_word 0) 2 && same (pad pending_bytes (take (get_or ws count_word 0) bs)) bs && stream_valid (station_at ws bs))
  unfolding stream_test station_at station_row pending_row same
  stream_same =
      let e : same (station_row (station_at ws bs)) ws ≡ (leb (get_or ws count_word 0) pending_bytes && ltb (get_or ws broken_word 0) 2) =
      ap (same (station_row (station_at ws bs))) (sym (named_take station_words 0 ws (omega arith) ∙ take_all station_words ws (omega arith)))
      ∙ simp (eqb_same, cut_mark, cut_count pending_bytes (get_or ws count_word 0) bs lb, and-true) in
      ap (λ b. b && same (pad pending_bytes (take (get_or ws count_word 0) bs)) bs && stream_valid (station_at ws bs)) e

  pub too_long : pending_bytes < get_or ws count_word 0 → false ≡ stream_test ws bs
  too_long h = sym (stream_same ∙ rw (lt-leb (get_or ws count_word 0) pending_bytes h))

  -- nothing pending
  pub stream_idle : {z : Bool} → get_or ws count_word 0 ≡ 0 → z ≡ all is_zero bs → (ltb (get_or ws broken_word 0) 2 && z) ≡ stream_test ws bs
  unfolding stream_valid station_at all is_part framed framed_by length_of is_empty
  stream_idle {z} e ez =
      let zeros : same (pad pending_bytes []) bs ≡ all is_zero bs = same_pad_take pending_bytes 0 bs lb (omega arith) ∙ ap (all is_zero) (take_all pending_bytes bs (omega arith)) in
      sym (stream_same ∙ rw (e, zeros, ← ez, ← implies_or, or-true, and-true))

-- a mark of a stream that is not broken
not_broken : (w : ℕ) → (ltb w 2 && not (eqb w 1)) ≡ eqb w 0
not_broken zero = refl
not_broken (suc zero) = refl
not_broken (suc (suc w)) = rw (le-ltb (suc (suc w)) 2 (omega arith)) (sym (ne_eqb (suc (suc w)) 0 (λ h. omega arith)))

swapped : (a z p b : Bool) → (a && z && (p && b)) ≡ (a && b && p && z)
unfolding all member
swapped a z p b = simp and_assoc (simp and-true at (same_tests (a ∷ z ∷ p ∷ b ∷ []) (0 ∷ 1 ∷ 2 ∷ 3 ∷ []) (0 ∷ 3 ∷ 2 ∷ 1 ∷ []) refl refl))

-- bytes pending
pub stream_part : (ws bs : List ℕ) → ((i : ℕ) → get_or bs i 0 < 256) → {p z : Bool} → length ws ≡ station_words → length bs ≡ pending_bytes
    → (get_or ws count_word 0 ≡ 0 → ⊥) → get_or ws count_word 0 ≤ pending_bytes
    → p ≡ is_part (framed (take (get_or ws count_word 0 - 0) bs)) → z ≡ all is_zero (take (pending_bytes - get_or ws count_word 0) (drop (get_or ws count_word 0) bs))
    → (eqb (get_or ws broken_word 0) 0 && p && z) ≡ stream_test ws bs
unfolding stream_valid station_at is_byte
stream_part ws bs kb {p} {z} lw lb nz h ep ez =
    let n : ℕ = get_or ws count_word 0 in
    let a : p ≡ is_part (framed (take n bs)) = ep ∙ ap (λ (k : ℕ). is_part (framed (take k bs))) {x = n - 0} {y = n} (omega arith) in
    let e : is_empty (take n bs) ≡ false = sym (empty_length (take n bs)) ∙ ap (λ (k : ℕ). eqb k 0) (length-take-le n bs (omega arith)) ∙ ne_eqb n 0 nz in
    sym
    (stream_same ws bs lw lb
    ∙ rw (le-leb n pending_bytes h, same_pad_take pending_bytes n bs lb h, ← ez, all_below_lem 256 bs kb n, ← a, e, ← implies_or, or-false)
    (swapped (ltb (get_or ws broken_word 0) 2) z p (not (eqb (get_or ws broken_word 0) 1)))
    ∙ ap (λ b. b && p && z) (not_broken (get_or ws broken_word 0)))

-- ---- with the level

with_level : (ws bs : List ℕ) → (stream_test ws bs && level_test ws) ≡ station_test ws bs
unfolding stream_test station_test station_at level_valid client_token
with_level ws bs =
    let x : Station = station_at ws bs in
    and_assoc (same (station_row x) ws && same (pending_row x) bs) (stream_valid x) (level_test ws)
    ∙ ap (λ b. same (station_row x) ws && same (pending_row x) bs && (stream_valid x && b)) (implies_or (eqb (get_or ws client_word 0) 0) (eqb (get_or ws level_word 0) 0))

pub at_station : (ws bs : List ℕ) {s l : Bool} → s ≡ stream_test ws bs → l ≡ level_test ws → (s && l) ≡ station_test ws bs
at_station ws bs es el = ap₂ (λ a b. a && b) es el ∙ with_level ws bs

-- ---- rows that are all idle

pub at_idle : (ws : List ℕ) {l : Bool} → l ≡ level_test ws → (eqb (get_or ws count_word 0) 0 && ltb (get_or ws broken_word 0) 2 && l) ≡ idle_test ws
at_idle ws e = ap (λ b. eqb (get_or ws count_word 0) 0 && ltb (get_or ws broken_word 0) 2 && b) e

idle_rows : (n : ℕ) (xs bs : List ℕ) → length xs ≡ n * station_words → length bs ≡ n * pending_bytes
    → all idle_test (first_chunks station_words n xs) ≡ true → test_rows station_test station_words pending_bytes n xs bs ≡ all is_zero bs
unfolding test_rows all
idle_rows zero xs [] lx lb h = refl
idle_rows zero xs (b ∷ bs) lx lb h = absurd (omega (arith, zero-mul pending_bytes))
idle_rows (suc n) xs bs lx lb h =
    let ws : List ℕ = take station_words xs in
    let ps : List ℕ = take pending_bytes bs in
    let idle : idle_test ws ≡ true = and_l (idle_test ws) _ h in
    let quiet : (eqb (get_or ws count_word 0) 0 && ltb (get_or ws broken_word 0) 2) ≡ true = and_l _ (level_test ws) idle in
    let level : level_test ws ≡ true = and_r (eqb (get_or ws count_word 0) 0 && ltb (get_or ws broken_word 0) 2) (level_test ws) idle in
    let stream : stream_test ws ps ≡ all is_zero ps =
    sym (sym (rw (and_r (eqb (get_or ws count_word 0) 0) _ quiet)) ∙ stream_idle ws ps (length-take-le station_words xs (omega (arith, suc-mul n station_words))) (length-take-le pending_bytes bs (omega (arith, suc-mul n pending_bytes))) (eqb-true (get_or ws count_word 0) 0 (and_l (eqb (get_or ws count_word 0) 0) _ quiet)) refl) in
    let row : station_test ws ps ≡ all is_zero ps = sym (at_station ws ps refl refl) ∙ ap₂ (λ a b. a && b) stream level ∙ and-true (all is_zero ps) in
    ap₂ (λ a b. a && b) row
    (idle_rows n (drop station_words xs) (drop pending_bytes bs) (length-drop station_words xs ∙ omega (arith, lx, suc-mul n station_words)) (length-drop pending_bytes bs ∙ omega (arith, lb, suc-mul n pending_bytes)) (and_r (idle_test ws) _ h))
    ∙ sym (all_append is_zero ps (drop pending_bytes bs))
    ∙ ap (all is_zero) (take-append-drop pending_bytes bs)

-- with what the code has at its first return
pub all_idle_lem : (xs bs : List ℕ) {rows : List (List ℕ)} {i z : Bool} → rows ≡ first_chunks station_words station_count xs → i ≡ all idle_test rows → i ≡ true → z ≡ all is_zero bs
    → length xs ≡ station_count * station_words → length bs ≡ station_count * pending_bytes → z ≡ test_rows station_test station_words pending_bytes station_count xs bs
all_idle_lem xs bs er e t ez lx lb = ez ∙ sym (idle_rows station_count xs bs lx lb (sym (ap (all idle_test) er) ∙ sym e ∙ t))
