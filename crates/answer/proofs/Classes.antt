-- The classes of a row: each number is the token's. Assumes nothing.
use Prim.Native.Nat.{ℕ, zero, suc, ◌+◌, ◌-◌, ◌*◌, ◌/◌, ◌%◌, ◌^◌, ◌≤◌, ◌<◌, min}
use native.Mathlib.Omega.{arith}
use mathlib.Core.Path.{◌≡◌, refl, sym, ap, ap₂, ◌∙◌}
use mathlib.Core.Bool.{false, ◌&&◌}
use mathlib.Core.List.{List, [], ◌∷◌, ◌++◌, map}
use lib.Dec.{leb}
use borrow.Author.Tests.{leb-false, le-leb}
use lib.ListN.{length, take, drop, get_or, length-append, length-drop, length-map, get_or-map, get_or-eq_default}
use Rattle.std.specs.List.{sum_by}
use Rattle.std.proofs.lemmas.List.{get_or_default, length-take, take_all}
use Rattle.std.proofs.lemmas.List.Sums.{sum_by-cons}
use lib.Seq.{take-take, length-take-le}
use Rattle.table.specs.Lists.{take_least, named_take}
use Rattle.rules.specs.Number.{encode, encode_all}
use Rattle.rules.specs.Group.{Group, no_group}
use Rattle.rules.specs.Token.{sid_at, max_groups, max_restricting, max_dacl}
use Rattle.rules.specs.Query.{words, pairs, classes, class_bytes}
use Rattle.rules.specs.Head as Head
use Rattle.rules.specs.Basic.{word32}
use Rattle.rules.specs.Memory.{head_words, token_words, low32, unpack, limits_at, identity_at, privileges_at, groups_at, defaults_at, token_at}
use Rattle.rules.proofs.Answers.{word}
use Rattle.answer.specs.Classes.{pair_size, sid_size, privilege_words, RowSid, RowOne, RowCounted}

-- the words from b on that a count in the row leaves of a list of n
counted_part : (b n w k : ℕ) (ws : List ℕ) → b + n ≤ length ws → k ≡ min w n → take (b + k - b) (drop b ws) ≡ take w (take n (drop b ws))
counted_part b n w k ws h e =
    let long : length (take n (drop b ws)) ≡ n = length-take-le n (drop b ws) (simp length-drop (omega arith)) in
    ap (λ (j : ℕ). take j (drop b ws)) {x = b + k - b} {y = k} (omega arith)
    ∙ sym (take-take k n (drop b ws) (omega arith))
    ∙ ap (λ (j : ℕ). take j (take n (drop b ws))) e
    ∙ take_least w n (take n (drop b ws)) long

counted_few : (b n w k : ℕ) (ws : List ℕ) → k ≡ min w n → length (take (b + k - b) (drop b ws)) ≤ n
counted_few b n w k ws e = omega (arith, length-take (b + k - b) (drop b ws))

module _ (ws : List ℕ) (k : ℕ) (l : length ws ≡ token_words) where
  pub groups_read : k ≡ min (get_or ws Head.group_count 0) max_groups
      → (map unpack (take (head_words + k - head_words) (drop head_words ws)) ≡ groups_at ws)
      × (length (take (head_words + k - head_words) (drop head_words ws)) ≤ max_groups)
  unfolding groups_at
  groups_read e =
      (ap (map unpack) (counted_part head_words max_groups (get_or ws Head.group_count 0) k ws (omega arith) e), counted_few head_words max_groups (get_or ws Head.group_count 0) k ws e)

  -- the restricting SIDs are the row's last words
  pub restricting_read : k ≡ min (get_or ws Head.restricting_count 0) max_restricting
      → (map low32 (take (head_words + max_groups + k - (head_words + max_groups)) (drop (head_words + max_groups) ws)) ≡ (limits_at ws).restricting)
      × (length (take (head_words + max_groups + k - (head_words + max_groups)) (drop (head_words + max_groups) ws)) ≤ max_restricting)
  unfolding limits_at
  restricting_read e =
      let b : ℕ = head_words + max_groups in
      let all : take max_restricting (drop b ws) ≡ drop b ws = take_all max_restricting (drop b ws) (simp length-drop (omega arith)) in (
        ap (map low32)
            (counted_part b max_restricting (get_or ws Head.restricting_count 0) k ws (omega arith) e ∙ ap (take (get_or ws Head.restricting_count 0)) all),
        counted_few b max_restricting (get_or ws Head.restricting_count 0) k ws e,
      )

-- ---- the DACL that the row's count leaves

pub dacl_bytes : (ws bs : List ℕ) (n : ℕ) → length bs ≡ max_dacl → n ≡ min (get_or ws Head.dacl_length 0) max_dacl
    → encode n ++ take n bs ≡ class_bytes (token_at ws bs) 6
unfolding class_bytes classes token_at defaults_at
dacl_bytes ws bs n l c =
    let cut : take n bs ≡ take (get_or ws Head.dacl_length 0) bs = ap (λ (k : ℕ). take k bs) c ∙ take_least (get_or ws Head.dacl_length 0) max_dacl bs l in
    let long : length (take (get_or ws Head.dacl_length 0) bs) ≡ n = ap length (sym cut) ∙ length-take-le n bs (omega arith) in
    ap₂ (λ (k : ℕ) (xs : List ℕ). encode k ++ xs) (sym long) cut

-- ---- the SID of an index

module _ (ws : List ℕ) (index : ℕ) where
  pub user_sid : index ≡ 0 → RowSid ws index (get_or ws Head.user 0 % word32)
  unfolding sid_at token_at identity_at
  user_sid e = record { sid = λ bs. ap (sid_at (token_at ws bs)) (sym e) }

  -- past the user
  later : 0 < index → {r : ℕ} → r ≡ (get_or (groups_at ws) (index - 1) no_group).sid → RowSid ws index r
  unfolding sid_at token_at
  later h e = record { sid = λ bs. e ∙ ap (sid_at (token_at ws bs)) {x = suc (index - 1)} {y = index} (omega arith) }

  module _ (gs : List ℕ) (read : map unpack gs ≡ groups_at ws) where
    pub no_sid : (index ≡ 0 → ⊥) → length gs ≤ index - 1 → RowSid ws index 0
    unfolding no_group
    no_sid u h =
        later (omega arith)
        (sym (ap (λ (g : Group). g.sid) (get_or-eq_default (groups_at ws) no_group (omega (arith, ap length read, length-map gs unpack)))))

    pub group_sid : (index ≡ 0 → ⊥) → index - 1 < length gs → {w : ℕ} → w ≡ get_or gs (index - 1) w → RowSid ws index (w % word32)
    unfolding unpack no_group
    group_sid u h {w} e =
        later (omega arith)
        (ap (λ (v : ℕ). v % word32) (e ∙ get_or_default gs (index - 1) w 0 h)
        ∙ ap (λ (g : Group). g.sid) (sym (get_or-map unpack gs (index - 1) 0) ∙ ap (λ (hs : List Group). get_or hs (index - 1) no_group) read))

-- ---- the classes

module _ {ws : List ℕ} {class r : ℕ} where
  pub one : (k : ℕ) → class ≡ k → ((bs : List ℕ) → class_bytes (token_at ws bs) k ≡ encode r) → RowOne ws class r
  one k e b = record { bytes = λ bs. ap (class_bytes (token_at ws bs)) e ∙ b bs }

  -- a SID that was looked up
  pub one_sid : (k index : ℕ) → class ≡ k → RowSid ws index r → ((bs : List ℕ) → class_bytes (token_at ws bs) k ≡ encode (sid_at (token_at ws bs) index))
      → RowOne ws class r
  one_sid k index e q b = one k e (λ bs. b bs ∙ ap encode (sym (q.sid bs)))

-- ---- how long a class is

module _ {ws : List ℕ} {class r : ℕ} where
  pub counted_numbers : (k : ℕ) (ns : List ℕ) → class ≡ k → ((bs : List ℕ) → class_bytes (token_at ws bs) k ≡ encode_all ns) → r ≡ length (encode_all ns)
      → RowCounted ws class r
  counted_numbers k ns e b h = record { counted = λ bs l. h ∙ ap length (sym (ap (class_bytes (token_at ws bs)) e ∙ b bs)) }

  pub counted_privileges : length ws ≡ token_words → class ≡ 3 → r ≡ length (encode_all (take (17 - 13) (drop 13 ws))) → RowCounted ws class r
  unfolding class_bytes classes token_at privileges_at words
  counted_privileges l e h =
      counted_numbers 3 (privilege_words ws) e (λ bs. refl)
      (h ∙ ap (λ (ns : List ℕ). length (encode_all ns)) (sym (named_take 4 13 ws (omega arith))))

  pub counted_one : {m : ℕ} → RowOne ws class m → r ≡ length (encode m) → RowCounted ws class r
  counted_one o h = record { counted = λ bs l. h ∙ ap length (sym (o.bytes bs)) }

-- ---- a list's size: its count, and then each word's

few_bytes : (f : ℕ → ℕ) (k : ℕ) → ((w : ℕ) → w < 2 ^ 64 → f w ≤ k) → (gs : List ℕ) → ((i : ℕ) → get_or gs i 0 < 2 ^ 64) → sum_by f gs ≤ length gs * k
few_bytes f k h [] below = omega arith
few_bytes f k h (w ∷ gs) below = omega (arith, sum_by-cons f w gs, few_bytes f k h gs (λ i. below (suc i)), h w (below 0))

module _ (gs : List ℕ) (r : ℕ) (below : (i : ℕ) → get_or gs i 0 < 2 ^ 64) where
  pub pairs_few : length gs ≤ max_groups → r ≡ sum_by pair_size gs → r ≤ 20 * max_groups
  pairs_few h e =
      let one : (w : ℕ) → w < 2 ^ 64 → pair_size w ≤ 20 = λ w b. omega (arith, word (low32 w) (omega arith), word (w / word32) (omega arith)) in
      omega (arith, few_bytes pair_size 20 one gs below)

  pub sids_few : length gs ≤ max_restricting → r ≡ sum_by sid_size gs → r ≤ 10 * max_restricting
  sids_few h e =
      let one : (w : ℕ) → w < 2 ^ 64 → sid_size w ≤ 10 = λ w b. word (low32 w) (omega arith) in
      omega (arith, few_bytes sid_size 10 one gs below)

pairs_encoded : (gs : List ℕ) → sum_by pair_size gs ≡ length (encode_all (pairs (map unpack gs)))
unfolding encode_all pairs unpack
pairs_encoded [] = refl
pairs_encoded (w ∷ gs) = simp length-append (omega (arith, sum_by-cons pair_size w gs, pairs_encoded gs))

sids_encoded : (gs : List ℕ) → sum_by sid_size gs ≡ length (encode_all (map low32 gs))
unfolding encode_all
sids_encoded [] = refl
sids_encoded (w ∷ gs) = simp length-append (omega (arith, sum_by-cons sid_size w gs, sids_encoded gs))

module _ (ws gs : List ℕ) (a b : ℕ) where
  pub groups_counted : map unpack gs ≡ groups_at ws → a ≡ length (encode (length gs)) → b ≡ sum_by pair_size gs → RowCounted ws 2 (a + b)
  unfolding class_bytes classes token_at encode_all
  groups_counted e h k = record {
    counted = λ bs l.
        rw (← e) (simp (length-append, length-map gs unpack) (omega (arith, pairs_encoded gs)));
  }

  pub sids_counted : map low32 gs ≡ (limits_at ws).restricting → a ≡ length (encode (length gs)) → b ≡ sum_by sid_size gs → RowCounted ws 10 (a + b)
  unfolding class_bytes classes token_at encode_all
  sids_counted e h k = record {
    counted = λ bs l.
        rw (← e) (simp (length-append, length-map gs low32) (omega (arith, sids_encoded gs)));
  }

pub counted_dacl : {ws : List ℕ} {n m : ℕ} → n ≡ min (get_or ws Head.dacl_length 0) max_dacl → m ≡ length (encode n) → RowCounted ws 6 (m + n)
counted_dacl {ws} {n} c e = record {
  counted = λ bs l.
      let k : length (take n bs) ≡ n = length-take-le n bs (omega arith) in
      ap (λ (j : ℕ). j + n) e
      ∙ ap (λ (j : ℕ). length (encode n) + j) (sym k)
      ∙ sym (length-append (encode n) (take n bs))
      ∙ ap length (dacl_bytes ws bs n l c);
}

-- ---- what the functions name

pub ruleset sids = (user_sid, no_sid, group_sid)

pub ruleset ones = (one, one_sid)

pub ruleset counts = (counted_one, counted_privileges, counted_numbers)

-- ---- a number that no class has

pub past_classes : (ws bs : List ℕ) (class : ℕ) → 13 < class → class_bytes (token_at ws bs) class ≡ []
unfolding class_bytes classes
past_classes ws bs class h = get_or-eq_default ([] ∷ classes (token_at ws bs)) [] h

pub no_class : (ws bs : List ℕ) (class : ℕ) → leb 1 class && leb class 13 ≡ false → class_bytes (token_at ws bs) class ≡ []
unfolding class_bytes classes
no_class ws bs zero h = refl
no_class ws bs (suc k) h = past_classes ws bs (suc k) (leb-false (suc k) 13 (rw (le-leb 1 (suc k) (omega arith)) at h))
