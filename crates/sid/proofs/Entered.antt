-- What `enter` does is what entering a SID is. Assumes nothing.
use Prim.Native.Nat.{ℕ, suc, ◌+◌, ◌-◌, ◌≤◌, ◌<◌, ◌^◌}
use native.Mathlib.Omega.{arith}
use mathlib.Core.Path.{◌≡◌, refl, sym, ap, ap₂, subst, ◌∙◌}
use mathlib.Core.Bool.{Bool, true, false}
use mathlib.Core.Logic.{⊎_elim}
use mathlib.Core.List.{List, [], ◌∷◌, ◌++◌}
use lib.ListN.{length, take, drop, get_or, length-drop, length-take, length-append}
use lib.Seq.{take_all, take-take}
use borrow.Author.Tests.{leb-true}
use Rattle.std.specs.Prelude.{if◌then◌else◌, Option, Some, None}
use Rattle.rules.specs.Basic.{is_below}
use Rattle.rules.specs.Sid.{Sid, no_sid, valid_sid}
use Rattle.rules.specs.SidTable.{max_sids, is_in, place_of, entered, fits_table, sids_valid}
use Rattle.rules.specs.SidRows.{sid_row, row_sid, rank, row_at, rows_at, sid_words, write_sids, sids_at, sid_words_valid}
use Rattle.rules.specs.Growth.{Mem}
use Rattle.rules.proofs.Logic.{either, mem_all}
use Rattle.rules.proofs.Sids.{is_below_lem, row_back, row_one, length_row}
use Rattle.rules.proofs.SidOrder.{every, rising_distinct, order_below}
use Rattle.rules.proofs.SidNumbers.{at_in, place_in, absent_place, sids_fit, sids_few, sid_at_lem, entered_known, entered_new, few_fit, many_unfit}
use Rattle.rules.proofs.SidWords.{rows_of, places_of, length_rows_of, length_places_of, count_in_lem, places_in, rows_in_lem, row_of, places_rise, places_front, words_size, words_written, words_valid}
use Rattle.sid.specs.Finding.{Sought, FoundAt, added, Rowed, EnteredAs}
use Rattle.sid.proofs.Entering.{added_written}

module _ (ws x : List ℕ) (v : sid_words_valid ws ≡ true) (x-row : Rowed x) where
  abbrev ss : List Sid
  ss = sids_at ws

  abbrev s : Sid
  s = row_sid x

  sv : sids_valid ss ≡ true
  sv = words_valid ws v

  pub size : length ws ≡ sid_words
  size = words_size ws v

  is_written : write_sids ss ≡ ws
  is_written = words_written ws v

  pub count : get_or ws 0 0 ≡ length ss
  count = ap (λ (l : List ℕ). get_or l 0 0) (sym is_written) ∙ count_in_lem ss

  pub count_few : get_or ws 0 0 ≤ max_sids
  count_few = omega (arith, count, sids_few ss sv)

  rows_lent : take (sid_words - rows_at) (drop rows_at ws) ≡ rows_of ss
  rows_lent =
      take_all (sid_words - rows_at) (drop rows_at ws) (omega (arith, size, length-drop rows_at ws)) ∙ ap (drop rows_at) (sym is_written) ∙ rows_in_lem ss

  places_lent : take (1 + get_or ws 0 0 - 1) (drop 1 ws) ≡ places_of ss
  places_lent =
      let c : 1 + get_or ws 0 0 - 1 ≡ length ss = omega (arith, count) in
      ap₂ (λ (k : ℕ) (l : List ℕ). take k (drop 1 l)) c (sym is_written)
      ∙ sym (take-take (length ss) max_sids (drop 1 (write_sids ss)) (sids_few ss sv))
      ∙ ap (take (length ss)) (places_in ss) ∙ places_front ss sv

  here_sought : Sought (places_of ss) (rows_of ss) x
  here_sought = record {
    long = length_rows_of ss;
    wide = ap length (sym x-row.same) ∙ length_row s;
    few = omega (arith, sids_few ss sv, length_places_of ss);
    below = mem_all (is_below max_sids) (places_of ss) (λ i m. is_below_lem i max_sids (omega (arith, sids_few ss sv, order_below (row_at (rows_of ss)) (length ss) i m)));
    rises = places_rise ss sv;
  }

  pub lent_sought : Sought (take (1 + get_or ws 0 0 - 1) (drop 1 ws)) (take (sid_words - rows_at) (drop rows_at ws)) x
  lent_sought = subst (λ (p : List ℕ). Sought p (take (sid_words - rows_at) (drop rows_at ws)) x) (sym places_lent) (subst (λ (r : List ℕ). Sought (places_of ss) r x) (sym rows_lent) here_sought)

  there_all : (i : ℕ) → i < length ss → Mem i (places_of ss)
  there_all =
      every (length ss) (places_of ss) (rising_distinct (row_at (rows_of ss)) (places_of ss) here_sought.rises) (order_below (row_at (rows_of ss)) (length ss)) (length_places_of ss)

  -- in the table at j: its row is x
  row_x : (j : ℕ) → j < length ss → get_or ss j no_sid ≡ s → row_at (rows_of ss) j ≡ x
  row_x j l e = row_of ss sv j l ∙ ap sid_row e ∙ x-row.same

  module _ {r : Option ℕ} (f : FoundAt (take (1 + get_or ws 0 0 - 1) (drop 1 ws)) (take (sid_words - rows_at) (drop rows_at ws)) x r) where
    f' : FoundAt (places_of ss) (rows_of ss) x r
    f' = subst (λ (q : List ℕ). FoundAt (places_of ss) q x r) rows_lent (subst (λ (p : List ℕ). FoundAt p (take (sid_words - rows_at) (drop rows_at ws)) x r) places_lent f)

    -- it stands there, or nowhere
    placed : is_in s ss ≡ true → r ≡ Some (place_of s ss)
    placed h =
        let p = place_in s no_sid ss h in
        f'.only (place_of s ss) (there_all (place_of s ss) p.0) (row_x (place_of s ss) p.0 p.1)

  -- an old one
  pub entered_old : {i : ℕ} → FoundAt (take (1 + get_or ws 0 0 - 1) (drop 1 ws)) (take (sid_words - rows_at) (drop rows_at ws)) x (Some i) → EnteredAs x ws ws (Some i)
  entered_old {i} f =
      let m = (f' f).there in
      let k : i < length ss = order_below (row_at (rows_of ss)) (length ss) i m.0 in
      let q : get_or ss i no_sid ≡ s = row_one (get_or ss i no_sid) s (sid_at_lem ss sv i k) x-row.sound (sym (row_of ss sv i k) ∙ m.1 ∙ sym x-row.same) in
      let h : is_in s ss ≡ true = ap (λ (t : Sid). is_in t ss) (sym q) ∙ at_in no_sid ss i k in
      let e : entered s ss ≡ ss = entered_known s ss h in
      let fits : fits_table (entered s ss) ≡ true = ap fits_table e ∙ sids_fit ss sv in
      record {
        place = placed f h ∙ sym (ap (λ (b : Bool). if b then Some (place_of s ss) else None) fits);
        written = sym (ap (λ (t : List Sid). if fits_table t then write_sids t else ws) e ∙ rw (sids_fit ss sv) is_written);
      }

  module _ (f : FoundAt (take (1 + get_or ws 0 0 - 1) (drop 1 ws)) (take (sid_words - rows_at) (drop rows_at ws)) x None) where
    not_found : is_in s ss ≡ false
    not_found = ⊎_elim (λ h. no_some (placed f h)) (λ h. h) (either (is_in s ss))
      where
        no_some : None ≡ Some (place_of s ss) → is_in s ss ≡ false
        no_some e = cc

    new : entered s ss ≡ ss ++ (s ∷ [])
    new = entered_new s ss not_found

    at_end : get_or ws 0 0 ≡ place_of s ss
    at_end = count ∙ sym (absent_place s ss not_found)

    longer : length (ss ++ (s ∷ [])) ≡ suc (length ss)
    longer = length-append ss (s ∷ []) ∙ omega arith

    -- a new one without room
    pub entered_full : max_sids ≤ get_or ws 0 0 → EnteredAs x ws ws None
    entered_full h =
        let unfit : fits_table (entered s ss) ≡ false = ap fits_table new ∙ many_unfit (ss ++ (s ∷ [])) (omega (arith, longer, count)) in
        record { place = rw unfit; written = rw unfit }

    -- a new one
    pub entered_here : get_or ws 0 0 < max_sids → (k : ℕ) → k ≡ rank (row_at (take (sid_words - rows_at) (drop rows_at ws))) x (take (1 + get_or ws 0 0 - 1) (drop 1 ws))
        → (ws' : List ℕ) → ws' ≡ added (get_or ws 0 0) k x ws → EnteredAs x ws ws' (Some (get_or ws 0 0))
    entered_here h k ek ws' ew =
        let room : length ss < max_sids = omega (arith, count) in
        let fits : fits_table (entered s ss) ≡ true = ap fits_table new ∙ few_fit (ss ++ (s ∷ [])) (omega (arith, longer)) in
        let kr : k ≡ rank (row_at (rows_of ss)) (sid_row s) (places_of ss) =
        ek ∙ ap₂ (λ (r p : List ℕ). rank (row_at r) x p) rows_lent places_lent ∙ ap (λ (y : List ℕ). rank (row_at (rows_of ss)) y (places_of ss)) (sym x-row.same) in
        record {
          place = ap Some at_end ∙ sym (ap (λ (b : Bool). if b then Some (place_of s ss) else None) fits);
          written =
              ew ∙ ap₂ (λ (n j : ℕ). added n j x ws) count kr
              ∙ ap₂ (λ (y w : List ℕ). added (length ss) (rank (row_at (rows_of ss)) (sid_row s) (places_of ss)) y w) (sym x-row.same) (sym is_written)
              ∙ sym (added_written ss s room)
              ∙ sym (ap (λ (t : List Sid). if fits_table t then write_sids t else ws) new ∙ rw (few_fit (ss ++ (s ∷ [])) (omega (arith, longer))) refl);
        }

module _ (ws : List ℕ) (x : List ℕ) (v : sid_words_valid ws ≡ true) (x-row : Rowed x) where
  pub end_small : 1 + get_or ws 0 0 < 2 ^ 64
  end_small = omega (arith, count_few ws x v x-row)

  pub end_in : 1 + get_or ws 0 0 ≤ length ws
  end_in = omega (arith, count_few ws x v x-row, size ws x v x-row)

  pub rank_in : {k : ℕ} → k ≤ length (take (1 + get_or ws 0 0 - 1) (drop 1 ws)) → k ≤ get_or ws 0 0
  rank_in h = omega (arith, length-take (1 + get_or ws 0 0 - 1) (drop 1 ws))

-- ---- for the callers

-- the row of a valid SID
pub rowed : (s : Sid) → valid_sid s ≡ true → Rowed (sid_row s)
rowed s v = record { same = ap sid_row (row_back s v); sound = ap valid_sid (row_back s v) ∙ v }

place_fits : (s : Sid) (ss : List Sid) → sids_valid ss ≡ true → fits_table (entered s ss) ≡ true → place_of s ss < max_sids
unfolding fits_table
place_fits s ss v f =
    ⊎_elim
    (λ k. omega (arith, (place_in s no_sid ss k).0, sids_few ss v))
    (λ k. omega (arith, absent_place s ss k, ap length (entered_new s ss k), length-append ss (s ∷ []), leb-true (length (entered s ss)) max_sids f))
    (either (is_in s ss))

-- the place of what was entered
pub entered_place : {x ws ws' : List ℕ} {i : ℕ} → sid_words_valid ws ≡ true → EnteredAs x ws ws' (Some i) → i < max_sids
entered_place {x} {ws} {i = i} v h = by (fits_table (entered (row_sid x) (sids_at ws))) refl h.place
  where
    by : (b : Bool) → fits_table (entered (row_sid x) (sids_at ws)) ≡ b → Some i ≡ (if b then Some (place_of (row_sid x) (sids_at ws)) else None) → i < max_sids
    by true f q = let e : i ≡ place_of (row_sid x) (sids_at ws) = cc in omega (arith, place_fits (row_sid x) (sids_at ws) (words_valid ws v) f)
    by false f q = cc
