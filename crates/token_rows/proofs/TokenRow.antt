-- A token's row: the tests of its parts come to `token_test`. Assumes nothing.
use Rattle.std.proofs.Common.{◌≡◌, ℕ, zero, suc, ◌+◌, ◌-◌, ◌*◌, ◌/◌, ◌%◌, ◌^◌, ◌<◌, ◌≤◌, Bool, true, false, not, ◌&&◌, ◌||◌, eqb, ltb, leb, List, [], ◌∷◌, ◌++◌, map, length, get_or, take, drop, sym, refl, ap, ◌∙◌, ap₂, add_comm, div-add-mod', arith, length-drop, length-take, length-take-le, take_all, take-take, drop-drop, ltb-true, lt-ltb, eq-eqb, ne_eqb, le-leb, leb-true}
use mathlib.Core.Bool.{and-true, and-false, and_assoc}
use borrow.Author.Tests.{lt-leb}
use lib.ListN.{length-map}
use Rattle.table.specs.Lists.{pad, length_pad, named_take}
use Rattle.rules.specs.Basic.{all, member, implies, same, is_zero, word32}
use Rattle.rules.specs.Bits.{within}
use Rattle.rules.specs.Group.{Group}
use Rattle.rules.specs.Token.{Token, max_groups, max_restricting, max_dacl, primary, impersonation}
use Rattle.rules.specs.Create.{valid_integrity}
use Rattle.rules.specs.AdjustDefaults.{valid_owner, valid_group}
use Rattle.rules.specs.Valid.{is_byte, is32, is64, between, identity_valid, privileges_valid, group_valid, groups_valid, limits_valid, defaults_valid, token_valid}
use Rattle.rules.specs.Head as Head
use Rattle.rules.specs.Memory.{pack, unpack, low32, low8, head, head_words, token_row, dacl_row, slot_row, slot_dacl, slot_at, token_at, identity_at, privileges_at, groups_at, limits_at, defaults_at, token_words}
use Rattle.rules.proofs.Logic.{and_l, and_r}
use Rattle.rules.proofs.Facts.{between_high}
use Rattle.rules.proofs.Rows.{integrity32}
use Rattle.lists.specs.Tests.{is_narrow}
use Rattle.token_rows.specs.Tests.{slot_test, group_test, head_test, groups_end, groups_part, groups_rest, sids_part, sids_rest, dacl_rest, lists_test, Counted, live_test, token_test}
use Rattle.lists.proofs.Cuts.{drop_take}
use Rattle.lists.proofs.Truth.{same_tests, eqb_same, implies_or, uncut, all_holds, all_map, all_below_lem}
use Rattle.token_rows.proofs.Same.{same_append, same_zeros, same_pad, same_pad_take, same_map, cut32, cut8, cut_mark, cut_count}
use Rattle.token_rows.proofs.Groups.{is32_low}

pack_unpacks : (ws : List ℕ) → map pack (map unpack ws) ≡ ws
unfolding pack unpack
pack_unpacks [] = refl
pack_unpacks (w ∷ ws) =
    ap₂ (λ y ys. y ∷ ys) (add_comm (w % word32) (w / word32 * word32) ∙ div-add-mod' w word32) (pack_unpacks ws)

length_head : (t : Token) → length (head t) ≡ head_words
unfolding head
length_head t = refl

-- ---- a field's width and its range are one test

integrity_below : (w : ℕ) → valid_integrity w ≡ true → w < word32
unfolding is32
integrity_below w h = ltb-true w word32 (integrity32 w h)

owner_below : (gs : List Group) (o : ℕ) → valid_owner gs o ≡ true → o ≤ length gs
unfolding valid_owner
owner_below gs zero h = omega arith
owner_below gs (suc k) h = ltb-true k (length gs) (and_l (ltb k (length gs)) _ h)

group_below : (gs : List Group) (i : ℕ) → valid_group gs i ≡ true → i ≤ length gs
unfolding valid_group
group_below gs i h = leb-true i (length gs) h

-- type and level
kind_level : (t l : ℕ)
    → ((leb 1 t && leb t 2) && (leb l 3 && (not (eqb t 1) || eqb l 0)))
    ≡ (ltb t 256 && (between primary impersonation (low8 t) && (ltb l 256 && (leb (low8 l) 3 && implies (eqb (low8 t) primary) (eqb (low8 l) 0)))))
unfolding between
kind_level t l =
    ap (λ b. (leb 1 t && leb t 2) && (leb l 3 && b)) (implies_or (eqb t 1) (eqb l 0))
    ∙ sym (uncut 256 (λ w. (leb 1 w && leb w 2) && (leb l 3 && implies (eqb w 1) (eqb l 0))) (λ w h. omega (arith, leb-true w 2 (and_r (leb 1 w) (leb w 2) (and_l _ _ h)))) t)
    ∙ ap (λ b. ltb t 256 && ((leb 1 (low8 t) && leb (low8 t) 2) && b))
    (sym (uncut 256 (λ w. leb w 3 && implies (eqb (low8 t) 1) (eqb w 0)) (λ w h. omega (arith, leb-true w 3 (and_l (leb w 3) _ h))) l))

-- ---- the tests of a row, as they stand in the rules and as they stand in the code

shuffle : (u t l e m n o p s i E Q I K L M P G O R Z N Y D : Bool) {KLM E' I' O' R' : Bool}
    → KLM ≡ (t && (K && (l && (L && M)))) → E' ≡ (e && E) → I' ≡ (i && I) → O' ≡ (o && O) → R' ≡ (p && R)
    → ((u && (t && (l && (e && (m && (n && (o && (p && (s && i))))))))) && (Z && (N && Y)) && D && (E && Q && (I && K && L && M) && P && G && (O && R)))
    ≡ (u && KLM && E' && m && n && s && Q && P && I' && G && O' && R' && Z && N && Y && D)
unfolding all member
shuffle u t l e m n o p s i E Q I K L M P G O R Z N Y D hk he hi ho hr =
    simp (hk, he, hi, ho, hr, and_assoc)
    (simp and-true at
    (same_tests
    (u ∷ t ∷ l ∷ e ∷ m ∷ n ∷ o ∷ p ∷ s ∷ i ∷ Z ∷ N ∷ Y ∷ D ∷ E ∷ I ∷ K ∷ L ∷ M ∷ P ∷ G ∷ O ∷ R ∷ Q ∷ [])
    (0 ∷ 1 ∷ 2 ∷ 3 ∷ 4 ∷ 5 ∷ 6 ∷ 7 ∷ 8 ∷ 9 ∷ 10 ∷ 11 ∷ 12 ∷ 13 ∷ 14 ∷ 23 ∷ 15 ∷ 16 ∷ 17 ∷ 18 ∷ 19 ∷ 20 ∷ 21 ∷ 22 ∷ [])
    (0 ∷ 1 ∷ 16 ∷ 2 ∷ 17 ∷ 18 ∷ 3 ∷ 14 ∷ 4 ∷ 5 ∷ 8 ∷ 23 ∷ 19 ∷ 9 ∷ 15 ∷ 20 ∷ 6 ∷ 21 ∷ 7 ∷ 22 ∷ 10 ∷ 11 ∷ 12 ∷ 13 ∷ [])
    refl refl))

-- the groups' words, as the rules take them
abbrev group_words : List ℕ → List ℕ
group_words ws = take (get_or ws Head.group_count 0) (take max_groups (drop head_words ws))

module _ (ws bs : List ℕ) (lw : length ws ≡ token_words) (lb : length bs ≡ max_dacl) where
  -- ---- a free slot, a live one

  free_test : get_or ws Head.number 0 ≡ 0 → token_test ws bs ≡ (all is_zero ws && all is_zero bs)
  unfolding token_test slot_at slot_row slot_dacl slot_test
  free_test e = rw (eq-eqb (get_or ws Head.number 0) 0 e, and-true) (ap₂ (λ a b. a && b) (same_zeros token_words ws lw) (same_zeros max_dacl bs lb))

  pub at_live : {r : Bool} → (get_or ws Head.number 0 ≡ 0 → ⊥) → r ≡ live_test ws bs → r ≡ token_test ws bs
  unfolding token_test live_test slot_at slot_row slot_dacl slot_test
  at_live h e = e ∙ sym (rw (ne_eqb (get_or ws Head.number 0) 0 h))

  live_parts : live_test ws bs ≡ (same (token_row (token_at ws bs)) ws && same (pad max_dacl (take (get_or ws Head.dacl_length 0) bs)) bs && token_valid (token_at ws bs))
  unfolding live_test dacl_row token_at defaults_at
  live_parts = refl

  pub at_free : {r q : Bool} → get_or ws Head.number 0 ≡ 0 → r ≡ all is_zero ws → q ≡ all is_zero bs → (r && q) ≡ token_test ws bs
  at_free e er eq = ap₂ (λ a b. a && b) er eq ∙ sym (free_test e)

  -- ---- what the slot is written as

  head_same : same (head (token_at ws bs)) (take head_words ws)
      ≡ ((ltb (get_or ws Head.user 0) word32
      && (ltb (get_or ws Head.type 0) 256
      && (ltb (get_or ws Head.level 0) 256
      && (ltb (get_or ws Head.elevation 0) 256
      && (ltb (get_or ws Head.write_restricted 0) 2
      && (ltb (get_or ws Head.user_deny_only 0) 2
      && (ltb (get_or ws Head.owner 0) word32
      && (ltb (get_or ws Head.primary_group 0) word32
      && (ltb (get_or ws Head.scope 0) word32
      && ltb (get_or ws Head.integrity 0) word32)))))))))
      && (leb (get_or ws Head.group_count 0) max_groups && (leb (get_or ws Head.restricting_count 0) max_restricting && leb (get_or ws Head.dacl_length 0) max_dacl)))
  unfolding same head token_at identity_at privileges_at groups_at limits_at defaults_at
  head_same =
      let g : eqb (length (map unpack (group_words ws))) (get_or ws Head.group_count 0) ≡ leb (get_or ws Head.group_count 0) max_groups =
      ap (λ (n : ℕ). eqb n (get_or ws Head.group_count 0)) (length-map (group_words ws) unpack)
      ∙ cut_count max_groups (get_or ws Head.group_count 0) (take max_groups (drop head_words ws)) (length-take-le max_groups (drop head_words ws) (simp length-drop (omega arith))) in
      let s : eqb (length (map low32 (take (get_or ws Head.restricting_count 0) (drop groups_end ws)))) (get_or ws Head.restricting_count 0) ≡ leb (get_or ws Head.restricting_count 0) max_restricting =
      ap (λ (n : ℕ). eqb n (get_or ws Head.restricting_count 0)) (length-map (take (get_or ws Head.restricting_count 0) (drop groups_end ws)) low32)
      ∙ cut_count max_restricting (get_or ws Head.restricting_count 0) (drop groups_end ws) (simp length-drop (omega arith)) in
      let d : eqb (length (take (get_or ws Head.dacl_length 0) bs)) (get_or ws Head.dacl_length 0) ≡ leb (get_or ws Head.dacl_length 0) max_dacl = cut_count max_dacl (get_or ws Head.dacl_length 0) bs lb in
      ap (same (head (token_at ws bs))) (sym (named_take head_words 0 ws (omega arith)))
      ∙ simp (eqb_same, cut32, cut8, cut_mark, g, s, d, and-true, and_assoc)

  row_same : same (token_row (token_at ws bs)) ws
      ≡ (same (head (token_at ws bs)) (take head_words ws)
      && (same (pad max_groups (map pack (groups_at ws))) (take max_groups (drop head_words ws))
      && same (pad max_restricting (limits_at ws).restricting) (drop groups_end ws)))
  unfolding token_row token_at
  row_same =
      same_append head_words (head (token_at ws bs)) (pad max_groups (map pack (groups_at ws)) ++ pad max_restricting (limits_at ws).restricting) ws (length_head (token_at ws bs))
      ∙ ap (λ b. same (head (token_at ws bs)) (take head_words ws) && b)
      (same_append max_groups (pad max_groups (map pack (groups_at ws))) (pad max_restricting (limits_at ws).restricting) (drop head_words ws) (length_pad max_groups (map pack (groups_at ws)))
      ∙ ap (λ l. same (pad max_groups (map pack (groups_at ws))) (take max_groups (drop head_words ws)) && same (pad max_restricting (limits_at ws).restricting) l) (drop-drop max_groups head_words ws))

  -- a count beyond its limit
  bad_count : (get_or ws Head.number 0 ≡ 0 → ⊥) → (leb (get_or ws Head.group_count 0) max_groups && (leb (get_or ws Head.restricting_count 0) max_restricting && leb (get_or ws Head.dacl_length 0) max_dacl)) ≡ false → false ≡ token_test ws bs
  bad_count h e = at_live h (sym (live_parts ∙ rw (row_same, head_same, e, and-false)))

  pub too_many_groups : (get_or ws Head.number 0 ≡ 0 → ⊥) → max_groups < get_or ws Head.group_count 0 → false ≡ token_test ws bs
  too_many_groups h e = bad_count h (rw (lt-leb (get_or ws Head.group_count 0) max_groups e))

  pub too_many_sids : (get_or ws Head.number 0 ≡ 0 → ⊥) → max_restricting < get_or ws Head.restricting_count 0 → false ≡ token_test ws bs
  too_many_sids h e = bad_count h (rw (lt-leb (get_or ws Head.restricting_count 0) max_restricting e, and-false))

  pub too_many_bytes : (get_or ws Head.number 0 ≡ 0 → ⊥) → max_dacl < get_or ws Head.dacl_length 0 → false ≡ token_test ws bs
  too_many_bytes h e = bad_count h (rw (lt-leb (get_or ws Head.dacl_length 0) max_dacl e, and-false, and-false))

  -- the lists' parts, as the code lends them
  groups_same : get_or ws Head.group_count 0 ≤ max_groups → same (pad max_groups (map pack (groups_at ws))) (take max_groups (drop head_words ws))
      ≡ all is_zero (groups_rest ws)
  unfolding groups_at
  groups_same h =
      let n : ℕ = get_or ws Head.group_count 0 in
      let gp : List ℕ = take max_groups (drop head_words ws) in
      let lg : length gp ≡ max_groups = length-take-le max_groups (drop head_words ws) (simp length-drop (omega arith)) in
      ap (λ l. same (pad max_groups l) gp) (pack_unpacks (take n gp))
      ∙ same_pad_take max_groups n gp lg h
      ∙ ap (all is_zero)
      (take_all (max_groups - n) (drop n gp) (simp length-drop (omega arith))
      ∙ drop_take n max_groups (drop head_words ws)
      ∙ ap₂ (λ (k : ℕ) (l : List ℕ). take k l) {x = max_groups - n} {y = groups_end - (head_words + n)} (omega arith) (drop-drop n head_words ws))

  restricting_same : get_or ws Head.restricting_count 0 ≤ max_restricting → same (pad max_restricting (limits_at ws).restricting) (drop groups_end ws)
      ≡ (all is_narrow (sids_part ws) && all is_zero (sids_rest ws))
  unfolding limits_at
  restricting_same h =
      let s : ℕ = get_or ws Head.restricting_count 0 in
      let sp : List ℕ = drop groups_end ws in
      same_pad low32 max_restricting s sp (simp length-drop (omega arith)) h
      ∙ ap₂ (λ a b. a && b)
      (same_map low32 is_narrow cut32 (take s sp) ∙ ap (λ (k : ℕ). all is_narrow (take k sp)) {x = s} {y = groups_end + s - groups_end} (omega arith))
      (ap (all is_zero) (drop-drop s groups_end ws ∙ sym (take_all (token_words - (groups_end + s)) (drop (groups_end + s) ws) (simp length-drop (omega arith)))))

-- ---- a token whose counts are within their limits

module _ (ws bs : List ℕ) (kw : (i : ℕ) → get_or ws i 0 < 2 ^ 64) (kb : (i : ℕ) → get_or bs i 0 < 256) (counted : Counted ws bs) where
  token_tests : token_valid (token_at ws bs)
      ≡ (between 1 3 (low8 (get_or ws Head.elevation 0))
      && leb (get_or ws Head.root 0) (get_or ws Head.number 0)
      && (valid_integrity (low32 (get_or ws Head.integrity 0))
      && between primary impersonation (low8 (get_or ws Head.type 0))
      && leb (low8 (get_or ws Head.level 0)) 3
      && implies (eqb (low8 (get_or ws Head.type 0)) primary) (eqb (low8 (get_or ws Head.level 0)) 0))
      && privileges_valid (privileges_at ws)
      && all group_valid (map unpack (group_words ws))
      && (valid_owner (map unpack (group_words ws)) (low32 (get_or ws Head.owner 0)) && valid_group (map unpack (group_words ws)) (low32 (get_or ws Head.primary_group 0))))
  unfolding token_valid token_at identity_valid identity_at groups_valid groups_at limits_valid limits_at defaults_valid defaults_at is64 is_byte
  token_tests =
      let sids : List ℕ = take (get_or ws Head.restricting_count 0) (drop groups_end ws) in
      let a : ltb (get_or ws Head.modified 0) (2 ^ 64) ≡ true = lt-ltb _ (2 ^ 64) (kw Head.modified) in
      let b : ltb (get_or ws Head.session 0) (2 ^ 64) ≡ true = lt-ltb _ (2 ^ 64) (kw Head.session) in
      let c : leb (length (map unpack (group_words ws))) max_groups ≡ true =
      le-leb (length (map unpack (group_words ws))) max_groups (omega (arith, length-map (group_words ws) unpack, length-take (get_or ws Head.group_count 0) (take max_groups (drop head_words ws)), length-take max_groups (drop head_words ws))) in
      let d : leb (length (map low32 sids)) max_restricting ≡ true =
      le-leb (length (map low32 sids)) max_restricting (omega (arith, length-map sids low32, length-take (get_or ws Head.restricting_count 0) (drop groups_end ws), length-drop groups_end ws)) in
      let e : leb (length (take (get_or ws Head.dacl_length 0) bs)) max_dacl ≡ true = le-leb (length (take (get_or ws Head.dacl_length 0) bs)) max_dacl (omega (arith, length-take (get_or ws Head.dacl_length 0) bs)) in
      let f : all is32 (map low32 sids) ≡ true = all_map low32 is32 sids ∙ all_holds (λ w. is32 (low32 w)) is32_low sids in
      let g : all (λ n. ltb n 256) (take (get_or ws Head.dacl_length 0) bs) ≡ true = all_below_lem 256 bs kb (get_or ws Head.dacl_length 0) in
      simp (a, b, c, d, e, f, g, is32_low, and-true)

  counts_hold : (leb (get_or ws Head.group_count 0) max_groups && (leb (get_or ws Head.restricting_count 0) max_restricting && leb (get_or ws Head.dacl_length 0) max_dacl)) ≡ true
  counts_hold = rw (le-leb (get_or ws Head.group_count 0) max_groups counted.groups, le-leb (get_or ws Head.restricting_count 0) max_restricting counted.restricting, le-leb (get_or ws Head.dacl_length 0) max_dacl counted.dacl)

  lent_groups : groups_part ws ≡ group_words ws
  lent_groups =
      ap (λ (j : ℕ). take j (drop head_words ws)) {x = head_words + get_or ws Head.group_count 0 - head_words} {y = get_or ws Head.group_count 0} (omega arith)
      ∙ sym (take-take (get_or ws Head.group_count 0) max_groups (drop head_words ws) counted.groups)

  long : length (map unpack (group_words ws)) ≡ get_or ws Head.group_count 0
  long = length-map (group_words ws) unpack ∙ length-take-le (get_or ws Head.group_count 0) (take max_groups (drop head_words ws)) (simp (length-take, length-drop) (omega arith))

  row_tests : (head_test ws
      && valid_integrity (get_or ws Head.integrity 0)
      && all group_valid (map unpack (group_words ws))
      && valid_owner (map unpack (group_words ws)) (get_or ws Head.owner 0)
      && valid_group (map unpack (group_words ws)) (get_or ws Head.primary_group 0)
      && lists_test ws bs)
      ≡ live_test ws bs
  unfolding privileges_valid privileges_at within between
  row_tests =
      let gs : List Group = map unpack (group_words ws) in
      let w : ℕ → ℕ = λ i. get_or ws i 0 in
      let z : Bool = all is_zero (groups_rest ws) in
      let n : Bool = all is_narrow (sids_part ws) in
      let y : Bool = all is_zero (sids_rest ws) in
      let d : Bool = all is_zero (dacl_rest ws bs) in
      let image : same (token_row (token_at ws bs)) ws
      ≡ ((ltb (w Head.user) word32 && (ltb (w Head.type) 256 && (ltb (w Head.level) 256 && (ltb (w Head.elevation) 256 && (ltb (w Head.write_restricted) 2 && (ltb (w Head.user_deny_only) 2 && (ltb (w Head.owner) word32 && (ltb (w Head.primary_group) word32 && (ltb (w Head.scope) word32 && ltb (w Head.integrity) word32)))))))))
      && (z && (n && y))) = row_same ws bs counted.words counted.bytes ∙ rw (head_same ws bs counted.words counted.bytes, counts_hold, and-true, groups_same ws bs counted.words counted.bytes counted.groups, restricting_same ws bs counted.words counted.bytes counted.restricting) in
      sym
      (live_parts ws bs counted.words counted.bytes
      ∙ ap₂ (λ a b. a && b) (ap₂ (λ a b. a && b) image (same_pad_take max_dacl (w Head.dacl_length) bs counted.bytes counted.dacl)) token_tests
      ∙ shuffle
      (ltb (w Head.user) word32) (ltb (w Head.type) 256) (ltb (w Head.level) 256) (ltb (w Head.elevation) 256) (ltb (w Head.write_restricted) 2) (ltb (w Head.user_deny_only) 2) (ltb (w Head.owner) word32) (ltb (w Head.primary_group) word32) (ltb (w Head.scope) word32) (ltb (w Head.integrity) word32)
      (between 1 3 (low8 (w Head.elevation))) (leb (w Head.root) (w Head.number)) (valid_integrity (low32 (w Head.integrity)))
      (between primary impersonation (low8 (w Head.type))) (leb (low8 (w Head.level)) 3) (implies (eqb (low8 (w Head.type)) primary) (eqb (low8 (w Head.level)) 0))
      (privileges_valid (privileges_at ws)) (all group_valid gs) (valid_owner gs (low32 (w Head.owner))) (valid_group gs (low32 (w Head.primary_group))) z n y d
      (kind_level (w Head.type) (w Head.level))
      (sym (uncut 256 (between 1 3) (λ v h. omega (arith, between_high 1 3 v h)) (w Head.elevation)))
      (sym (uncut word32 valid_integrity integrity_below (w Head.integrity)))
      (sym (uncut word32 (valid_owner gs) (λ v h. omega (arith, owner_below gs v h, long)) (w Head.owner)))
      (sym (uncut word32 (valid_group gs) (λ v h. omega (arith, group_below gs v h, long)) (w Head.primary_group)))
      ∙ simp and_assoc)

  -- with what the code has at its end
  pub at_end : {h i g o l : Bool}
      → h ≡ head_test ws
      → i ≡ valid_integrity (get_or ws Head.integrity 0)
      → g ≡ all group_test (groups_part ws)
      → o ≡ valid_owner (map unpack (groups_part ws)) (get_or ws Head.owner 0)
      → l ≡ lists_test ws bs
      → (h && i && g && o && leb (get_or ws Head.primary_group 0) (get_or ws Head.group_count 0) && l) ≡ live_test ws bs
  unfolding group_test valid_group
  at_end {h} {i} {g} {o} eh ei eg eo el =
      let a : g ≡ all group_valid (map unpack (group_words ws)) = eg ∙ ap (all group_test) lent_groups ∙ sym (all_map unpack group_valid (group_words ws)) in
      let b : o ≡ valid_owner (map unpack (group_words ws)) (get_or ws Head.owner 0) = eo ∙ ap (λ xs. valid_owner (map unpack xs) (get_or ws Head.owner 0)) lent_groups in
      let c : leb (get_or ws Head.primary_group 0) (get_or ws Head.group_count 0) ≡ leb (get_or ws Head.primary_group 0) (length (map unpack (group_words ws))) = ap (λ (k : ℕ). leb (get_or ws Head.primary_group 0) k) (sym long) in
      cc row_tests
