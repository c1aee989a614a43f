-- A row's SIDs are in the table: the code's tests come to the rules', of each row and of all. Assumes nothing.
use mathlib.Core.Path.{◌≡◌, refl, sym, ap, ap₂, ◌∙◌}
use mathlib.Core.Bool.{Bool, true, false, ◌&&◌, ◌||◌, and_assoc, and_comm}
use mathlib.Core.List.{List, [], ◌∷◌, map}
use Prim.Native.Nat.{ℕ, zero, suc, min, ◌+◌, ◌-◌, ◌/◌, ◌%◌, ◌^◌, ◌≤◌, ◌<◌}
use native.Mathlib.Nat.{mod-lt}
use native.Mathlib.Omega.{arith}
use borrow.Author.Tests.{eq-eqb, ne_eqb, le-leb, leb-true, leb-false, lt-ltb, ltb-true}
use lib.Dec.{eqb, leb, ltb}
use lib.ListN.{length, take, drop, get_or, length-take, length-drop}
use lib.Seq.{take_all, take-take}
use Rattle.table.specs.Rows.{read_rows, test_rows}
use Rattle.std.specs.Prelude.{if◌then◌else◌}
use Rattle.rules.specs.Basic.{all, word32}
use Rattle.rules.specs.Token.{Token, max_groups, max_restricting, max_dacl}
use Rattle.rules.specs.Group.{sid_of}
use Rattle.rules.specs.Table.{Slot, free, live, lives}
use Rattle.rules.specs.Sid.{Sid}
use Rattle.rules.specs.SidTable.{is_number}
use Rattle.rules.specs.State.{token_slots}
use Rattle.rules.specs.Valid.{sid_numbers, is_listed}
use Rattle.rules.specs.Head as Head
use Rattle.rules.specs.Memory.{low32, unpack, head_words, token_words, identity_at, groups_at, limits_at, token_at, slot_at}
use Rattle.rules.proofs.Logic.{and_l, and_r, and_i, or_r}
use Rattle.lists.proofs.Truth.{same_truth, all_append, all_map, all_cong}
use Rattle.token_rows.proofs.Groups.{lacks, or_lacks}
use Rattle.listed.specs.Tests.{at_most, last_of, number_to, stray_of, given_test, word_test, row_test, listed_test, TokensListed}

-- ---- the limits

module _ (most n : ℕ) where
  pub at_most_least : min n most ≡ at_most most n
  unfolding at_most
  at_most_least = by (leb n most) refl
    where
      by : (b : Bool) → leb n most ≡ b → min n most ≡ (if◌then◌else◌ b n most)
      by true e = let h = leb-true n most e in omega arith
      by false e = let h = leb-false n most e in omega arith

  -- what a list has no more of
  take_at_most : {A : Type 0} (xs : List A) → length xs ≤ most → take (at_most most n) xs ≡ take n xs
  unfolding at_most
  take_at_most xs l = by (leb n most) refl
    where
      by : (b : Bool) → leb n most ≡ b → take (if◌then◌else◌ b n most) xs ≡ take n xs
      by true e = refl
      by false e = let h = leb-false n most e in take_all most xs l ∙ sym (take_all n xs (omega arith))

pub last_least : (count : ℕ) → 29 + min count word32 ≡ last_of count
unfolding last_of
last_least count = by (leb count word32) refl
  where
    by : (b : Bool) → leb count word32 ≡ b → 29 + min count word32 ≡ (if◌then◌else◌ b (29 + count) (29 + word32))
    by true e = let h = leb-true count word32 e in omega arith
    by false e = let h = leb-false count word32 e in omega arith

-- ---- words

-- bit 63
unset : (w : ℕ) → w < 2 ^ 63 → lacks 63 w ≡ true
unset w h = eq-eqb (w / 2 ^ 63 % 2) 0 (omega arith)

set : (w : ℕ) → 2 ^ 63 ≤ w → w < 2 ^ 64 → lacks 63 w ≡ false
set w h k = ne_eqb (w / 2 ^ 63 % 2) 0 (λ e. omega arith)

module _ (last : ℕ) where
  pub stray_given : last < 2 ^ 63 → (w : ℕ) → lacks 63 (stray_of last w) ≡ given_test last w
  stray_given h w =
      or_lacks 63 (n + (0x7FFFFFFFFFFFFFFF - last)) (0x800000000000001F - n)
      ∙ ap₂ (λ a b. a && b) (above (leb n last) refl) (under (leb 32 n) refl)
      ∙ and_comm (leb n last) (leb 32 n)
    where
      n : ℕ
      n = low32 w

      narrow : n < word32
      narrow = mod-lt w (omega arith)

      above : (b : Bool) → leb n last ≡ b → lacks 63 (n + (0x7FFFFFFFFFFFFFFF - last)) ≡ b
      above true e = let k = leb-true n last e in unset (n + (0x7FFFFFFFFFFFFFFF - last)) (omega arith)
      above false e = let k = leb-false n last e in let l = narrow in set (n + (0x7FFFFFFFFFFFFFFF - last)) (omega arith) (omega arith)

      under : (b : Bool) → leb 32 n ≡ b → lacks 63 (0x800000000000001F - n) ≡ b
      under true e = let k = leb-true 32 n e in unset (0x800000000000001F - n) (omega arith)
      under false e = let k = leb-false 32 n e in set (0x800000000000001F - n) (omega arith) (omega arith)

  pub all_given : (s : List ℕ) {r : Bool} → r ≡ all (given_test last) s → r ≡ true → r ≡ all (word_test last) s
  unfolding all
  all_given s e t = t ∙ sym (every s (sym e ∙ t))
    where
      every : (s : List ℕ) → all (given_test last) s ≡ true → all (word_test last) s ≡ true
      every [] h = refl
      every (w ∷ s) h = and_i (or_r (eqb (low32 w) 7 || eqb (low32 w) 18) (given_test last w) (and_l (given_test last w) _ h)) (every s (and_r (given_test last w) _ h))

-- ---- a row

-- the part of a list that the code lends
lent : (a most n : ℕ) {k : ℕ} (ws : List ℕ) → k ≡ at_most most n → k ≤ most → take (a + k - a) (drop a ws) ≡ take n (take most (drop a ws))
lent a most n {k} ws e f =
    ap (λ (j : ℕ). take j (drop a ws)) {x = a + k - a} {y = k} (omega arith)
    ∙ sym (take-take k most (drop a ws) f)
    ∙ ap (λ (j : ℕ). take j (take most (drop a ws))) e
    ∙ take_at_most most n (take most (drop a ws)) (omega (arith, length-take most (drop a ws)))

-- a test of the SIDs that a row's token keeps; the DACL beside the row is not looked at
numbers : (p : ℕ → Bool) (ws bs : List ℕ) → all p (sid_numbers (token_at ws bs))
    ≡ (p (low32 (get_or ws Head.user 0))
    && (all (λ w. p (low32 w)) (take (get_or ws Head.group_count 0) (take max_groups (drop head_words ws)))
    && all (λ w. p (low32 w)) (take (get_or ws Head.restricting_count 0) (drop (head_words + max_groups) ws))))
unfolding all sid_numbers token_at identity_at groups_at limits_at sid_of unpack
numbers p ws bs =
    let gs : List ℕ = take (get_or ws Head.group_count 0) (take max_groups (drop head_words ws)) in
    let rs : List ℕ = take (get_or ws Head.restricting_count 0) (drop (head_words + max_groups) ws) in
    ap (λ b. p (low32 (get_or ws Head.user 0)) && b)
    (all_append p (map sid_of (map unpack gs)) (map low32 rs)
    ∙ ap₂ (λ a b. a && b) (all_map sid_of p (map unpack gs) ∙ all_map unpack (λ g. p (sid_of g)) gs) (all_map low32 p rs))

module _ (last : ℕ) (ws : List ℕ) where
  pub at_free : get_or ws Head.number 0 ≡ 0 → true ≡ row_test last ws []
  unfolding row_test
  at_free e = sym (rw (eq-eqb (get_or ws Head.number 0) 0 e))

  pub at_live : {g r : ℕ} {u a b : Bool} → length ws ≡ token_words → (get_or ws Head.number 0 ≡ 0 → ⊥)
      → g ≡ at_most max_groups (get_or ws Head.group_count 0) → g ≤ max_groups
      → r ≡ at_most max_restricting (get_or ws Head.restricting_count 0) → r ≤ max_restricting
      → u ≡ word_test last (get_or ws Head.user 0)
      → a ≡ all (word_test last) (take (head_words + g - head_words) (drop head_words ws))
      → b ≡ all (word_test last) (take (head_words + max_groups + r - (head_words + max_groups)) (drop (head_words + max_groups) ws))
      → (u && a && b) ≡ row_test last ws []
  unfolding row_test
  at_live {g} {r} {u} {a} {b} l h eg fg er fr eu ea eb =
      let whole : take max_restricting (drop (head_words + max_groups) ws) ≡ drop (head_words + max_groups) ws =
      take_all max_restricting (drop (head_words + max_groups) ws) (simp length-drop (omega arith)) in
      and_assoc u a b
      ∙ ap₂ (λ x y. x && y) eu
      (ap₂ (λ x y. x && y) (ea ∙ ap (all (word_test last)) (lent head_words max_groups (get_or ws Head.group_count 0) ws eg fg))
      (eb
      ∙ ap (all (word_test last))
      (lent (head_words + max_groups) max_restricting (get_or ws Head.restricting_count 0) ws er fr ∙ ap (take (get_or ws Head.restricting_count 0)) whole)))
      ∙ sym (rw (ne_eqb (get_or ws Head.number 0) 0 h) (numbers (number_to last) ws []))

-- ---- by the table

module _ (sids : List Sid) where
  -- of 32 bits
  number_listed : (w : ℕ) → word_test (last_of (length sids)) w ≡ is_number sids (low32 w)
  unfolding last_of is_number
  number_listed w = ap (λ b. eqb n 7 || eqb n 18 || (leb 32 n && b)) (by (leb (length sids) word32) refl)
    where
      n : ℕ
      n = low32 w

      by : (b : Bool) → leb (length sids) word32 ≡ b → leb n (if◌then◌else◌ b (29 + length sids) (29 + word32)) ≡ ltb n (30 + length sids)
      by true e = same_truth _ _ (λ h. lt-ltb n (30 + length sids) (omega (arith, leb-true n (29 + length sids) h))) (λ h. le-leb n (29 + length sids) (omega (arith, ltb-true n (30 + length sids) h)))
      by false e =
          let k = leb-false (length sids) word32 e in
          let l : n < word32 = mod-lt w (omega arith) in
          le-leb n (29 + word32) (omega arith) ∙ sym (lt-ltb n (30 + length sids) (omega arith))

  row_listed : (ws bs : List ℕ) → row_test (last_of (length sids)) ws bs ≡ listed_test sids ws bs
  unfolding row_test listed_test is_listed
  row_listed ws bs =
      ap (λ b. if eqb (get_or ws Head.number 0) 0 then true else b)
      (numbers (number_to (last_of (length sids))) ws bs
      ∙ ap₂ (λ a b. a && b) (number_listed (get_or ws Head.user 0)) (ap₂ (λ a b. a && b) (all_cong _ _ number_listed _) (all_cong _ _ number_listed _))
      ∙ sym (numbers (is_number sids) ws bs))

  rows_listed : (n : ℕ) (xs : List ℕ) → test_rows (row_test (last_of (length sids))) token_words 0 n xs [] ≡ test_rows (listed_test sids) token_words 0 n xs []
  unfolding test_rows
  rows_listed zero xs = refl
  rows_listed (suc n) xs = ap₂ (λ a b. a && b) (row_listed (take token_words xs) []) (rows_listed n (drop token_words xs))

  -- of the tokens that rows stand for
  pub all_listed : (n : ℕ) (xs bs : List ℕ) → all (is_listed sids) (lives (read_rows slot_at token_words max_dacl n xs bs)) ≡ test_rows (listed_test sids) token_words 0 n xs []
  unfolding test_rows read_rows all lives slot_at listed_test is_listed sid_numbers token_at
  all_listed zero xs bs = refl
  all_listed (suc n) xs bs = by (eqb (get_or ws Head.number 0) 0) (all_listed n (drop token_words xs) (drop max_dacl bs))
    where
      ws : List ℕ
      ws = take token_words xs

      ps : List (Slot Token)
      ps = read_rows slot_at token_words max_dacl n (drop token_words xs) (drop max_dacl bs)

      rest : Bool
      rest = test_rows (listed_test sids) token_words 0 n (drop token_words xs) []

      by : (b : Bool) → all (is_listed sids) (lives ps) ≡ rest
          → all (is_listed sids) (lives ((if◌then◌else◌ b free (live (token_at ws (take max_dacl bs)))) ∷ ps)) ≡ ((if◌then◌else◌ b true (is_listed sids (token_at ws []))) && rest)
      by true ih = ih
      by false ih = ap (λ c. is_listed sids (token_at ws []) && c) ih

-- ---- with what the code has at its end

pub at_end : {ts : List ℕ} {count last : ℕ} {ok : Bool} → last ≡ last_of count → ok ≡ test_rows (row_test last) token_words 0 token_slots ts []
    → TokensListed ts count ok
at_end {ts} e t = record {
  means = λ sids h. t ∙ ap (λ (k : ℕ). test_rows (row_test k) token_words 0 token_slots ts []) (e ∙ ap last_of (sym h)) ∙ rows_listed sids token_slots ts;
}
