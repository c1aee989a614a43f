-- The tests of the code come to `Memory.valid`. Assumes nothing.
use mathlib.Core.Path.{◌≡◌, refl, sym, ap, ap₂, ◌∙◌}
use mathlib.Core.Bool.{Bool, true, false, ◌&&◌, and-true, and-false, and_assoc}
use mathlib.Core.List.{List, [], ◌∷◌, ◌++◌, map}
use Prim.Native.Nat.{ℕ, ◌+◌, ◌-◌, ◌*◌, ◌^◌, ◌<◌}
use native.Mathlib.Omega.{arith}
use borrow.Author.Tests.{eq-eqb, le-leb}
use lib.Dec.{eqb, leb}
use lib.ListN.{length, take, drop, get_or, length-drop, length-map}
use lib.Seq.{length-take-le, drop-drop, get_or-take, get_or-drop}
use Rattle.table.specs.Lists.{named_take}
use Rattle.table.specs.Table.{flat, length_flat}
use Rattle.table.specs.Rows.{read_rows, test_rows, length_rows}
use Rattle.table.specs.Sections.{place_of}
use Rattle.handle.specs.declared.Handle as code
use Rattle.handle.specs.Meaning.{handle_of}
use Rattle.rules.specs.Basic.{all, member, distinct, non_zero, same}
use Rattle.rules.specs.Number.{max32, max64}
use Rattle.rules.specs.Token.{Token, max_dacl}
use Rattle.rules.specs.Table.{Slot, lives}
use Rattle.rules.specs.Handle.{Handle}
use Rattle.rules.specs.Station.{Station}
use Rattle.rules.specs.Pair.{Pair}
use Rattle.rules.specs.Sid.{Sid}
use Rattle.rules.specs.SidTable.{sids_valid}
use Rattle.rules.specs.SidRows.{rows_at, sid_words, write_sids, sids_at, sid_words_valid}
use Rattle.rules.specs.State as State
use Rattle.rules.specs.State.{token_slots, handle_slots, station_count, pair_slots, number_of, handle_number, handle_token, station_token, client_token, elevated_token, filtered_token, references}
use Rattle.rules.specs.Valid as Valid
use Rattle.rules.specs.Valid.{between, table_valid, token_valid, handle_valid, stream_valid, level_valid, is_token, primary_at_station, client_fits, client_at_stations, session_of, pair_valid, pairs_valid, is_listed}
use Rattle.rules.specs.Memory.{Memory, same_handles, same_memory, sized, is_image, valid, encode, decode, slot_at, slot_row, slot_dacl, slot_handle, handle_at, station_at, station_row, pair_at, slot_pair, counters, sections, control, pending_row, token_words, counter_words, station_words, pair_words, elevated_word, filtered_word, pair_section, sid_section, control_sizes, control_words, next_token, next_handle, stations_in, pairs_in, sids_in, pending_bytes}
use Rattle.rules.proofs.Same.{same_refl}
use Rattle.rules.proofs.Rows.{length_slot_row, length_slot_dacl, length_station_row, length_slot_pair, length_pending_row}
use Rattle.rules.proofs.SidWords.{length_read, length_sids}
use Rattle.token_rows.specs.Tests.{slot_test, token_test}
use Rattle.lists.specs.Tests.{tally, is_given, is_apart, is_referred, refs_test}
use Rattle.references.specs.Tests.{column_by, first_word, other_word, token_in, client_in, pair_column, kept, nonzero, numbers_test, links_test}
use Rattle.listed.specs.Tests.{TokensListed}
use Rattle.valid.specs.Tests.{station_test, parts_test}
use Rattle.valid.specs.Meaning.{memory_of, Lent}
use Rattle.lists.proofs.Truth.{same_tests, all_cong, all_and, all_map}
use Rattle.lists.proofs.Counts.{listed, referred}
use Rattle.token_rows.proofs.Same.{all_same, same_joined, same_rows}
use Rattle.listed.proofs.Listed.{all_listed}
use Rattle.references.proofs.Acting.{all_references, member_references, clients}
use Rattle.references.proofs.PairRows.{fits_with, elevated_tokens, filtered_tokens, pairs_tested}
use Rattle.references.proofs.Lists.{given, kept_lives, token_numbers_lem, primary_in, other_numbers, station_tokens, all_lives, fields}

-- ---- the tests, as they stand in the code and as they stand in the rules

-- L' is L where A₁ holds
shuffle : (T D H S₁ S₂ P a A₁ A₂ b B₁ B₂ c E F G L R Q C I X Y S₃ W N : Bool) {S L' : Bool} → S ≡ (S₁ && (S₂ && S₃)) → (A₁ ≡ true → L' ≡ L)
    → ((T && D && E) && (S₁ && P && (G && I)) && ((H && F) && ((a && (A₁ && A₂)) && (b && (B₁ && B₂)) && c && (R && L') && Q) && C && (S₂ && (X && Y))) && (S₃ && W) && N)
    ≡ ((T && D && H && S && P) && ((a && A₁ && A₂) && (b && c && B₁ && B₂) && E && F && G && L && R && Q && C && I && (X && Y) && W && N))
unfolding all member
shuffle T D H S₁ S₂ P a false A₂ b B₁ B₂ c E F G L R Q C I X Y S₃ W N s l = simp (and-false)
shuffle T D H S₁ S₂ P a true A₂ b B₁ B₂ c E F G L R Q C I X Y S₃ W N s l =
    rw (s, l refl)
    (simp and_assoc
    (simp and-true at
    (same_tests
    (T ∷ D ∷ E ∷ S₁ ∷ P ∷ G ∷ I ∷ H ∷ F ∷ a ∷ A₂ ∷ b ∷ B₁ ∷ B₂ ∷ c ∷ R ∷ L ∷ Q ∷ C ∷ S₂ ∷ X ∷ Y ∷ S₃ ∷ W ∷ N ∷ [])
    (0 ∷ 1 ∷ 2 ∷ 3 ∷ 4 ∷ 5 ∷ 6 ∷ 7 ∷ 8 ∷ 9 ∷ 10 ∷ 11 ∷ 12 ∷ 13 ∷ 14 ∷ 15 ∷ 16 ∷ 17 ∷ 18 ∷ 19 ∷ 20 ∷ 21 ∷ 22 ∷ 23 ∷ 24 ∷ [])
    (0 ∷ 1 ∷ 7 ∷ 3 ∷ 19 ∷ 22 ∷ 4 ∷ 9 ∷ 10 ∷ 11 ∷ 14 ∷ 12 ∷ 13 ∷ 2 ∷ 8 ∷ 5 ∷ 16 ∷ 15 ∷ 17 ∷ 18 ∷ 6 ∷ 20 ∷ 21 ∷ 23 ∷ 24 ∷ [])
    refl refl)))

module _ (m : Memory)
    (lt : length m.tokens ≡ token_slots * token_words) (ld : length m.dacls ≡ token_slots * max_dacl) (lh : length m.handles ≡ handle_slots)
    (ls : length m.control ≡ control_words) (lp : length m.pending ≡ station_count * pending_bytes)
    (kn : next_token m.control < 2 ^ 64) where
  tokens_tested : let rows : List (Slot Token) = read_rows slot_at token_words max_dacl token_slots m.tokens m.dacls in
      (same (flat slot_row rows) m.tokens && same (flat slot_dacl rows) m.dacls && all token_valid (lives rows))
      ≡ test_rows token_test token_words max_dacl token_slots m.tokens m.dacls
  unfolding token_test
  tokens_tested =
      let rows : List (Slot Token) = read_rows slot_at token_words max_dacl token_slots m.tokens m.dacls in
      ap (λ b. same (flat slot_row rows) m.tokens && same (flat slot_dacl rows) m.dacls && b) (all_lives token_valid rows)
      ∙ same_rows slot_at token_words max_dacl (slot_test token_valid) slot_row slot_dacl length_slot_row length_slot_dacl token_slots m.tokens m.dacls lt ld

  -- the counters are what they are read as, whatever they are
  control_tested : let xs : List Station = read_rows station_at station_words pending_bytes station_count (stations_in m.control) m.pending in
      let ps : List (Slot Pair) = read_rows pair_at pair_words 0 pair_slots (pairs_in m.control) [] in
      let ss : List Sid = sids_at (sids_in m.control) in
      same (control (decode m)) m.control
      ≡ (same (flat station_row xs) (stations_in m.control) && (same (flat slot_pair ps) (pairs_in m.control) && same (write_sids ss) (sids_in m.control)))
  unfolding decode control sections all_same
  control_tested =
      let xs : List Station = read_rows station_at station_words pending_bytes station_count (stations_in m.control) m.pending in
      let ps : List (Slot Pair) = read_rows pair_at pair_words 0 pair_slots (pairs_in m.control) [] in
      let count : length xs ≡ station_count = length_rows station_at station_words pending_bytes station_count (stations_in m.control) m.pending in
      let long : length (flat station_row xs) ≡ station_count * station_words = length_flat station_row station_words length_station_row xs ∙ ap (λ (n : ℕ). n * station_words) count in
      let places : length ps ≡ pair_slots = length_rows pair_at pair_words 0 pair_slots (pairs_in m.control) [] in
      let wide : length (flat slot_pair ps) ≡ pair_slots * pair_words = length_flat slot_pair pair_words length_slot_pair ps ∙ ap (λ (n : ℕ). n * pair_words) places in
      let tall : length (write_sids (sids_at (sids_in m.control))) ≡ sid_words = length_sids (sids_at (sids_in m.control)) in
      let counted : same (counters (decode m)) (take counter_words m.control) ≡ true =
      ap (same (counters (decode m))) (sym (named_take counter_words 0 m.control (omega arith))) ∙ same_refl (counters (decode m)) in
      same_joined (sections (decode m)) m.control (omega arith)
      ∙ rw (counted, long, wide, tall, drop-drop (station_count * station_words) counter_words m.control, drop-drop (pair_slots * pair_words) (counter_words + station_count * station_words) m.control, and-true)

  stations_tested : let xs : List Station = read_rows station_at station_words pending_bytes station_count (stations_in m.control) m.pending in
      (same (flat station_row xs) (stations_in m.control) && same (flat pending_row xs) m.pending && (all stream_valid xs && all level_valid xs))
      ≡ test_rows station_test station_words pending_bytes station_count (stations_in m.control) m.pending
  unfolding station_test
  stations_tested =
      let xs : List Station = read_rows station_at station_words pending_bytes station_count (stations_in m.control) m.pending in
      ap (λ v. same (flat station_row xs) (stations_in m.control) && same (flat pending_row xs) m.pending && v) (all_and stream_valid level_valid xs)
      ∙ same_rows station_at station_words pending_bytes (λ x. stream_valid x && level_valid x) station_row pending_row length_station_row length_pending_row station_count
      (stations_in m.control) m.pending (length-take-le (station_count * station_words) (drop counter_words m.control) (simp length-drop (omega arith))) lp

  pairs_long : length (pairs_in m.control) ≡ pair_slots * pair_words
  pairs_long = length-take-le (pair_slots * pair_words) (drop (place_of control_sizes pair_section) m.control) (simp length-drop (omega arith))

  sids_long : length (sids_in m.control) ≡ sid_words
  sids_long = length-take-le sid_words (drop (place_of control_sizes sid_section) m.control) (simp length-drop (omega arith))

  table_tested : sid_words_valid (sids_in m.control) ≡ (same (write_sids (sids_at (sids_in m.control))) (sids_in m.control) && sids_valid (sids_at (sids_in m.control)))
  unfolding sid_words_valid
  table_tested = rw (eq-eqb (length (sids_in m.control)) sid_words sids_long)

  pub parts : parts_test m ≡ (is_image m && Valid.valid (decode m))
  unfolding parts_test links_test numbers_test refs_test is_image same_memory encode decode Valid.valid table_valid between references is_token State.is_referred primary_at_station primary_in client_at_stations pairs_valid pair_valid State.token_of number_of
  parts =
      let rows : List (Slot Token) = read_rows slot_at token_words max_dacl token_slots m.tokens m.dacls in
      let xs : List Station = read_rows station_at station_words pending_bytes station_count (stations_in m.control) m.pending in
      let hs : List Handle = m.handles in
      let hl : List Handle = lives (map handle_at hs) in
      let col : List ℕ = column_by first_word token_words token_slots m.tokens in
      let ns : List ℕ = nonzero col in
      let ss : List ℕ = column_by token_in station_words station_count (stations_in m.control) in
      let nz : List ℕ = non_zero (map client_token xs) in
      let hn : List ℕ = kept handle_number handle_number hs in
      let ht : List ℕ = kept handle_number handle_token hs in
      let pw : List ℕ = pairs_in m.control in
      let ps : List (Slot Pair) = read_rows pair_at pair_words 0 pair_slots pw [] in
      let pl : List Pair = lives ps in
      let pe : List ℕ = pair_column elevated_word pw in
      let pf : List ℕ = pair_column filtered_word pw in
      let rs : List ℕ = ht ++ pe ++ pf ++ ss ++ column_by client_in station_words station_count (stations_in m.control) in
      let refs : List ℕ = map handle_token hl ++ map station_token xs ++ nz ++ map elevated_token pl ++ map filtered_token pl in
      let sw : List ℕ = sids_in m.control in
      let tn : List ℕ = map number_of (lives rows) in
      let nt : ℕ = next_token m.control in
      let nh : ℕ = next_handle m.control in
      let en : tn ≡ ns = token_numbers_lem token_slots m.tokens m.dacls in
      let es : map station_token xs ≡ ss = station_tokens station_count (stations_in m.control) m.pending in
      let eh : map handle_number hl ≡ hn = kept_lives handle_number hs in
      let et : map handle_token hl ≡ ht = kept_lives handle_token hs in
      let ee : map elevated_token pl ≡ pe = elevated_tokens pw in
      let ef : map filtered_token pl ≡ pf = filtered_tokens pw in
      let g₁ : (leb 1 nt && all (is_given nt ns) ns) ≡ (leb 1 nt && (distinct tn && all (between 1 (nt - 1)) tn)) = sym (rw en (given (λ x. x) nt col)) in
      let g₂ : (leb 1 nh && all (is_given nh hn) hn) ≡ (leb 1 nh && (distinct (map handle_number hl) && all (between 1 (nh - 1)) (map handle_number hl))) = sym (rw eh (given handle_number nh hs)) in
      let l : distinct tn ≡ true → eqb (tally ns rs) (length rs) ≡ all (λ n. member n tn) refs =
      λ d. sym (rw (en, et, es, ee, ef) (sym (listed ns (sym (ap distinct en) ∙ d) rs ∙ all_references (λ n. member n ns) ht pe pf station_count (stations_in m.control) m.pending))) in
      let r : all (is_referred rs) ns ≡ all (λ t. member t.number refs) (lives rows) =
      sym
      (sym (all_map number_of (λ n. member n refs) (lives rows))
      ∙ rw (en, es, et, ee, ef) (all_cong _ _ (λ x. sym (referred rs x ∙ member_references x ht pe pf station_count (stations_in m.control) m.pending)) ns)) in
      let q : all (is_apart ss) (nonzero (column_by other_word token_words token_slots m.tokens)) ≡ all (primary_in (map station_token xs)) (lives rows) =
      sym (ap (λ zs. all (primary_in zs) (lives rows)) es ∙ other_numbers ss token_slots m.tokens m.dacls) in
      let c₁ : eqb (length rows) token_slots ≡ true = eq-eqb (length rows) token_slots (length_rows slot_at token_words max_dacl token_slots m.tokens m.dacls) in
      let c₂ : eqb (length (map handle_at hs)) handle_slots ≡ true = eq-eqb (length (map handle_at hs)) handle_slots (length-map hs handle_at ∙ lh) in
      let c₃ : eqb (length xs) station_count ≡ true = eq-eqb (length xs) station_count (length_rows station_at station_words pending_bytes station_count (stations_in m.control) m.pending) in
      let c₅ : eqb (length ps) pair_slots ≡ true = eq-eqb (length ps) pair_slots (length_rows pair_at pair_words 0 pair_slots pw []) in
      let c₄ : leb nt max64 ≡ true = le-leb nt max64 (omega arith) in
      ap₂ ◌&&◌ (ap₂ ◌&&◌ (ap₂ ◌&&◌ (ap₂ ◌&&◌ (sym tokens_tested) (sym stations_tested))
      (ap₂ ◌&&◌ (ap₂ ◌&&◌ (ap₂ ◌&&◌ (sym (fields hs)) (ap₂ ◌&&◌ (ap₂ ◌&&◌ (ap (λ b. b && leb nh max32) (ap₂ ◌&&◌ g₁ g₂)) (ap (λ b. b && eqb (tally ns rs) (length rs)) r)) q))
      (sym (clients m.tokens m.dacls station_count (stations_in m.control) m.pending))) (sym (pairs_tested m.tokens m.dacls pw pairs_long))))
      table_tested) (sym (all_listed (sids_at sw) token_slots m.tokens m.dacls))
      ∙ shuffle
      (same (flat slot_row rows) m.tokens) (same (flat slot_dacl rows) m.dacls) (same_handles (map slot_handle (map handle_at hs)) hs)
      (same (flat station_row xs) (stations_in m.control)) (same (flat slot_pair ps) pw) (same (flat pending_row xs) m.pending)
      (leb 1 nt) (distinct tn) (all (between 1 (nt - 1)) tn)
      (leb 1 nh) (distinct (map handle_number hl)) (all (between 1 (nh - 1)) (map handle_number hl)) (leb nh max32)
      (all token_valid (lives rows)) (all handle_valid hl) (all stream_valid xs)
      (all (λ n. member n tn) refs)
      (all (λ t. member t.number refs) (lives rows)) (all (primary_in (map station_token xs)) (lives rows))
      (all (λ t. all (client_fits t) xs) (lives rows)) (all level_valid xs)
      (distinct (map session_of pl)) (all (fits_with m.tokens m.dacls) pl)
      (same (write_sids (sids_at sw)) sw) (sids_valid (sids_at sw)) (all (is_listed (sids_at sw)) (lives rows))
      control_tested l
      ∙ sym (rw (c₁, c₂, c₃, c₄, c₅, and-true, and-true))

-- ---- with what the code has at each return

-- as many SIDs as the first word says
sids_counted : (cs : List ℕ) → length (sids_at (sids_in cs)) ≡ get_or cs (place_of control_sizes sid_section) 0
unfolding sids_at
sids_counted cs = let h : 0 < sid_words = omega arith in length_read (get_or (sids_in cs) 0 0) (drop rows_at (sids_in cs)) ∙ rw (get_or-take, get_or-drop)

pub at_parts : (ts ds : List ℕ) (hs : List code.Handle) (cs ps : List ℕ) {t s l v n : Bool}
    → t ≡ test_rows token_test token_words max_dacl token_slots ts ds
    → s ≡ test_rows station_test station_words pending_bytes station_count (stations_in cs) ps
    → l ≡ links_test ts (map handle_of hs) cs
    → v ≡ sid_words_valid (sids_in cs)
    → TokensListed ts (get_or cs (place_of control_sizes sid_section) 0) n
    → (t && s && l && v && n) ≡ parts_test (memory_of ts ds hs cs ps)
unfolding parts_test
at_parts ts ds hs cs ps et eu el ev en = cc (en.means (sids_at (sids_in cs)) (sids_counted cs))

-- of memory whose sizes are right
pub whole : (ts ds : List ℕ) (hs : List code.Handle) (cs ps : List ℕ) → Lent ts ds cs ps → length hs ≡ handle_slots → next_token cs < 2 ^ 64
    → parts_test (memory_of ts ds hs cs ps) ≡ valid (memory_of ts ds hs cs ps)
unfolding valid sized
whole ts ds hs cs ps lent lh kn =
    parts (memory_of ts ds hs cs ps) lent.tokens lent.dacls (length-map hs handle_of ∙ lh) lent.control lent.pending kn
    ∙ sym (rw (eq-eqb (length ts) (token_slots * token_words) lent.tokens, eq-eqb (length ds) (token_slots * max_dacl) lent.dacls, eq-eqb (length (map handle_of hs)) handle_slots (length-map hs handle_of ∙ lh), eq-eqb (length cs) control_words lent.control, eq-eqb (length ps) (station_count * pending_bytes) lent.pending))
