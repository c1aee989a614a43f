-- Laws of numbers in the SID table, and of the packed SID of a number. Assumes nothing.
use Prim.Native.Nat.{ℕ, zero, suc, ◌+◌, ◌-◌, ◌≤◌, ◌<◌}
use native.Mathlib.Omega.{arith}
use mathlib.Core.Path.{◌≡◌, refl, sym, ap, ap₂, subst, ◌∙◌}
use mathlib.Core.Bool.{Bool, true, false, ◌&&◌, ◌||◌, and-false}
use mathlib.Core.List.{List, ◌++◌}
use lib.Dec.{eqb, leb, ltb}
use lib.ListN.{length, take, drop, get_or}
use borrow.Author.Tests.{eq-eqb, ne_eqb, le-leb, lt-leb, lt-ltb, le-ltb}
use Rattle.std.specs.Prelude.{if◌then◌else◌, Option, Some, None}
use Rattle.rules.specs.Number.{got}
use Rattle.rules.specs.Sid.{Sid, valid_sid, packed, read_sid}
use Rattle.rules.specs.SidTable.{max_sids, number_at, is_number, place_of_number, sid_of, sids_valid}
use Rattle.rules.specs.SidRows.{sid_row, row_sid, is_row, row_at, rows_at, sid_words, sids_at, sid_words_valid}
use Rattle.rules.proofs.Logic.{and_i}
use Rattle.rules.proofs.Sids.{read_packed, row_is, row_back, length_row}
use Rattle.rules.proofs.SidNumbers.{sids_few, sid_at_lem, sids_two, place_below}
use Rattle.rules.proofs.SidWords.{length_read, rows_in_lem, row_of, words_size, words_written, words_valid}
use Rattle.sid.specs.Numbers.{NumberIn, place_in, has_number, number_row, can_write_number, WroteNumber}
use Rattle.sid.specs.Reading.{Wrote}
use Rattle.sid.proofs.Parts.{rows_part}
use Rattle.sid.proofs.Writing.{it_can}

-- ---- the number of a place

pub at_first : (place : ℕ) → place ≡ 0 → 7 ≡ number_at place
unfolding number_at
at_first place e = sym (ap number_at e)

pub at_second : (place : ℕ) → place ≡ 1 → 18 ≡ number_at place
unfolding number_at
at_second place e = sym (ap number_at e)

pub at_others : (place : ℕ) → (place ≡ 0 → ⊥) → (place ≡ 1 → ⊥) → 30 + place ≡ number_at place
unfolding number_at
at_others zero a b = absurd (a refl)
at_others (suc zero) a b = absurd (b refl)
at_others (suc (suc k)) a b = let e : 30 + suc (suc k) ≡ 32 + k = omega arith in e

-- ---- whether a number is one in the table

pub number_tested : (n count : ℕ) → NumberIn n count (eqb n 7 || eqb n 18 || (leb 32 n && ltb n (30 + count)))
unfolding is_number
number_tested n count = record { is = λ sids e. ap (λ (k : ℕ). eqb n 7 || eqb n 18 || (leb 32 n && ltb n (30 + k))) (sym e) }

-- ---- where a number stands

pub stands_first : (n : ℕ) → n ≡ 7 → Some 0 ≡ place_in n
unfolding place_in place_of_number
stands_first n e = rw (eq-eqb n 7 e) refl

pub stands_second : (n : ℕ) → n ≡ 18 → Some 1 ≡ place_in n
unfolding place_in place_of_number
stands_second n e = rw e

module _ (n : ℕ) (a : n ≡ 7 → ⊥) (b : n ≡ 18 → ⊥) where
  pub stands_none : n < 32 → None ≡ place_in n
  unfolding place_in
  stands_none l = rw (ne_eqb n 7 a, ne_eqb n 18 b, lt-leb 32 n l) refl

  pub stands_over : 32 ≤ n → Some (n - 30) ≡ place_in n
  unfolding place_in place_of_number
  stands_over l = rw (ne_eqb n 7 a, ne_eqb n 18 b, le-leb 32 n l) refl

-- it stands nowhere: it is no number of any table
no_number : (sids : List Sid) (n : ℕ) → None ≡ place_in n → is_number sids n ≡ false
unfolding place_in is_number
no_number sids n h = by (eqb n 7) (eqb n 18) (leb 32 n) h
  where
    by : (a b c : Bool) → None ≡ (if a || b || c then Some (place_of_number n) else None) → (a || b || (c && ltb n (30 + length sids))) ≡ false
    by true b c q = cc
    by false true c q = cc
    by false false true q = cc
    by false false false q = refl

its_place : (n : ℕ) {p : ℕ} → Some p ≡ place_in n → p ≡ place_of_number n
unfolding place_in
its_place n {p} h = by (eqb n 7 || eqb n 18 || leb 32 n) h
  where
    by : (a : Bool) → Some p ≡ (if a then Some (place_of_number n) else None) → p ≡ place_of_number n
    by true q = cc
    by false q = cc

-- it stands among them
a_number : (sids : List Sid) (n : ℕ) {p : ℕ} → Some p ≡ place_in n → p < length sids → is_number sids n ≡ true
unfolding place_in place_of_number is_number
a_number sids n {p} h l = by (eqb n 7) (eqb n 18) (leb 32 n) h
  where
    by : (a b c : Bool) → Some p ≡ (if a || b || c then Some (if a then 0 else if b then 1 else n - 30) else None) → (a || b || (c && ltb n (30 + length sids))) ≡ true
    by true b c q = refl
    by false true c q = refl
    by false false true q = let e : p ≡ n - 30 = cc in lt-ltb n (30 + length sids) (omega arith)
    by false false false q = cc

-- ---- the packed SID of a number

count_read : (ws : List ℕ) → length (sids_at ws) ≡ get_or ws 0 0
unfolding sids_at
count_read ws = length_read (get_or ws 0 0) (drop rows_at ws)

module _ (ws : List ℕ) (n : ℕ) (out : List ℕ) where
  refused : has_number ws n ≡ false → WroteNumber ws n out out None
  unfolding can_write_number
  refused e = record { size = rw e refl; bytes = rw e refl }

  pub number_size : (length ws ≡ sid_words → ⊥) → WroteNumber ws n out out None
  unfolding has_number
  number_size ne = refused (rw (ne_eqb (length ws) sid_words ne) refl)

  module _ (size : length ws ≡ sid_words) where
    pub number_many : max_sids < get_or ws 0 0 → WroteNumber ws n out out None
    unfolding has_number
    number_many h = refused (rw (eq-eqb (length ws) sid_words size, lt-leb (get_or ws 0 0) max_sids h) refl)

    module _ (few : get_or ws 0 0 ≤ max_sids) where
      pub number_none : None ≡ place_in n → WroteNumber ws n out out None
      unfolding has_number
      number_none h = refused (rw (eq-eqb (length ws) sid_words size, le-leb (get_or ws 0 0) max_sids few, no_number (sids_at ws) n h) refl)

      module _ {p : ℕ} (h : Some p ≡ place_in n) where
        e : p ≡ place_of_number n
        e = its_place n h

        pub number_behind : get_or ws 0 0 ≤ p → WroteNumber ws n out out None
        unfolding has_number
        number_behind l =
            refused (
            ap (λ (b : Bool). eqb (length ws) sid_words && leb (get_or ws 0 0) max_sids && is_number (sids_at ws) n && b) (le-ltb (place_of_number n) (get_or ws 0 0) (omega (arith, e)))
            ∙ and-false (eqb (length ws) sid_words && leb (get_or ws 0 0) max_sids && is_number (sids_at ws) n)
            )

        has : p < get_or ws 0 0 → has_number ws n ≡ true
        unfolding has_number
        has l =
            and_i (and_i (and_i (eq-eqb (length ws) sid_words size) (le-leb (get_or ws 0 0) max_sids few)) (a_number (sids_at ws) n h (omega (arith, count_read ws))))
            (lt-ltb (place_of_number n) (get_or ws 0 0) (omega (arith, e)))

        pub number_wrote : p < get_or ws 0 0 → {row after : List ℕ} {r : Option ℕ} → row ≡ row_at (take (sid_words - rows_at) (drop rows_at ws)) p
            → Wrote row out after r → WroteNumber ws n out after r
        unfolding can_write_number number_row
        number_wrote l {row} {after} {r} f w =
            let its : row ≡ number_row ws n = f ∙ ap₂ row_at (rows_part ws size) e in
            let q : Wrote (number_row ws n) out after r = subst (λ (x : List ℕ). Wrote x out after r) its w in
            record { size = rw (has l) q.size; bytes = rw (has l) q.bytes }

-- of a valid table: the packed SID that has the number, and it is read back
module _ (ws : List ℕ) (n : ℕ) (before : List ℕ) (v : sid_words_valid ws ≡ true) (h : is_number (sids_at ws) n ≡ true)
    (room : length (packed (sid_of (sids_at ws) n)) ≤ length before) where
  abbrev ss : List Sid
  ss = sids_at ws

  abbrev s : Sid
  s = sid_of ss n

  sv : sids_valid ss ≡ true
  sv = words_valid ws v

  inside : place_of_number n < length ss
  inside = place_below ss n (sids_two ss sv) h

  sound : valid_sid s ≡ true
  unfolding sid_of
  sound = sid_at_lem ss sv (place_of_number n) inside

  its_row : number_row ws n ≡ sid_row s
  unfolding number_row sid_of
  its_row =
      ap (λ (l : List ℕ). row_at l (place_of_number n)) (ap (drop rows_at) (sym (words_written ws v)) ∙ rows_in_lem ss) ∙ row_of ss sv (place_of_number n) inside

  its_sid : row_sid (number_row ws n) ≡ s
  its_sid = ap row_sid its_row ∙ row_back s sound

  can : can_write_number ws n before ≡ true
  unfolding can_write_number has_number
  can =
      and_i (and_i (and_i (and_i (eq-eqb (length ws) sid_words (words_size ws v)) (le-leb (get_or ws 0 0) max_sids (omega (arith, count_read ws, sids_few ss sv)))) h)
      (lt-ltb (place_of_number n) (get_or ws 0 0) (omega (arith, count_read ws, inside))))
      (it_can (number_row ws n) before (ap length its_row ∙ length_row s) (ap is_row its_row ∙ row_is s sound)
      (omega (arith, room, ap (λ (t : Sid). length (packed t)) its_sid)))

  module _ {after : List ℕ} {r : Option ℕ} (w : WroteNumber ws n before after r) where
    pub sized : r ≡ Some (length (packed s))
    sized = w.size ∙ rw can (ap (λ (t : Sid). Some (length (packed t))) its_sid)

    pub written : after ≡ packed s ++ drop (length (packed s)) before
    written = w.bytes ∙ rw can (ap (λ (t : Sid). packed t ++ drop (length (packed t)) before) its_sid)

    pub reads_back : read_sid after ≡ got s (drop (length (packed s)) before)
    reads_back = ap read_sid written ∙ read_packed s sound (drop (length (packed s)) before)
