-- The loop that asks whether some station's row has a number in a word, and whether some station or some pair refers to a token. Assumes nothing.
use Prim.Native.Nat.{ℕ, zero, suc, ◌+◌, ◌≤◌, ◌<◌}
use native.Mathlib.Omega.{arith}
use mathlib.Core.Path.{◌≡◌, refl, sym, ap, ap₂, ◌∙◌}
use mathlib.Core.Bool.{Bool, true, false, not, ◌&&◌, ◌||◌, or-true}
use mathlib.Core.List.{List, [], ◌∷◌, ◌++◌, map, append_assoc}
use lib.Dec.{eqb, ltb, leb-suc-suc}
use lib.ListN.{length, get_or, length-map}
use borrow.Author.Tests.{eqb-true, eqb-false, eq-eqb, ne_eqb, lt-ltb, le-ltb}
use Rattle.table.specs.Rows.{length_rows}
use Rattle.std.specs.Prelude.{if◌then◌else◌, Option, Some, None, unwrap_or, is_some, IfSome}
use Rattle.rules.specs.Basic.{member, non_zero}
use Rattle.rules.specs.Table.{Slot, free, live, lives}
use Rattle.rules.specs.Pair.{Pair, has}
use Rattle.rules.specs.Index.{found_index}
use Rattle.rules.specs.Station.{Station, start_station}
use Rattle.rules.specs.State.{State, station_count, pair_slots, station_at, station_token, client_token, elevated_token, filtered_token}
use Rattle.rules.specs.Memory.{primary_word, client_word, pair_words, station_row, pairs_in, pair_at}
use Rattle.rules.proofs.Logic.{member_append, member_filter}
use Rattle.handle.proofs.Rest.{Gathering, gather_more}
use Rattle.control.specs.Control.{ControlIn}
use Rattle.control.specs.Stations.{WordGiven, column, StationsHave, StationsRefer}
use Rattle.control.specs.Pairs.{pairs_of, PairFound, PairsRefer}
use Rattle.control.specs.References.{Refer}
use Rattle.control.proofs.StationRows.{station_count_lem}

module _ (n k : ℕ) where
  -- whether one of the first i stations has it
  pub record Asking (ws : List ℕ) (got : Bool) (i : ℕ) : Type 0 where
    pub within : i ≤ station_count
    pub of : (σ : State) → ControlIn σ ws → Gathering (eqb n) (member n) 0 (column k σ.stations) station_count (member n (column k σ.stations)) got i

  pub asking_none : (ws : List ℕ) → Asking ws false 0
  unfolding member
  asking_none ws = record {
    within = omega arith;
    of = λ σ h. record {
      some = record { none = refl; step = λ x ys. refl };
      rest = record { long = length-map σ.stations (λ x. get_or (station_row x) k 0) ∙ station_count_lem σ h; within = omega arith; whole = refl };
    };
  }

  -- the default does not matter
  word_at : (xs : List Station) (i : ℕ) → i < length xs → get_or (column k xs) i 0 ≡ get_or (station_row (get_or xs i start_station)) k 0
  word_at [] i h = absurd (omega arith)
  word_at (x ∷ xs) zero h = refl
  word_at (x ∷ xs) (suc i) h = word_at xs i (omega arith)

  pub asking_more : {ws : List ℕ} {got : Bool} {i w : ℕ} → Asking ws got i → i < station_count → WordGiven i k ws w → Asking ws (got || eqb n w) (i + 1)
  unfolding station_at
  asking_more {i = i} a h g = record {
    within = omega arith;
    of = λ σ c. gather_more (a.of σ c) h (ap (eqb n) (g.word σ c ∙ sym (word_at σ.stations i (omega (arith, station_count_lem σ c)))));
  }

pub refers : (token : ℕ) {ws : List ℕ} {p c : Bool} → StationsHave token primary_word ws p → StationsHave token client_word ws c
    → StationsRefer token ws (p || (not (eqb token 0) && c))
unfolding station_row station_token client_token non_zero
refers token p c = record {
  refer = λ σ i.
      ap₂ (λ a b. a || (not (eqb token 0) && b)) (p.have σ i) (c.have σ i)
      ∙ sym (member_append token (map station_token σ.stations) _ ∙ ap (λ b. member token (map station_token σ.stations) || b) (member_filter _ token (map client_token σ.stations)));
}

-- ---- the pairs

same_test : (a b : ℕ) → eqb a b ≡ eqb b a
same_test a b = by (eqb b a) refl
  where
    by : (t : Bool) → eqb b a ≡ t → eqb a b ≡ t
    by true e = eq-eqb a b (sym (eqb-true b a e))
    by false e = ne_eqb a b (λ q. eqb-false b a e (sym q))

-- a pair that has the token is below the length
refer_below : (token : ℕ) (ps : List (Slot Pair)) → ltb (found_index (has token) ps) (length ps) ≡ (member token (map elevated_token (lives ps)) || member token (map filtered_token (lives ps)))
unfolding found_index has lives member elevated_token filtered_token
refer_below token [] = refl
refer_below token (free ∷ ps) = leb-suc-suc (suc (found_index (has token) ps)) (length ps) ∙ refer_below token ps
refer_below token (live p ∷ ps) =
    rw (same_test token p.elevated, same_test token p.filtered) (by (eqb p.elevated token) (eqb p.filtered token) _ _ (refer_below token ps))
  where
    by : (a b e f : Bool) → ltb (found_index (has token) ps) (length ps) ≡ (e || f)
        → ltb (if a || b then zero else suc (found_index (has token) ps)) (suc (length ps)) ≡ (a || e || (b || f))
    by true b e f q = lt-ltb zero (suc (length ps)) (omega arith)
    by false true e f q = lt-ltb zero (suc (length ps)) (omega arith) ∙ sym (or-true e)
    by false false e f q = leb-suc-suc (suc (found_index (has token) ps)) (length ps) ∙ q

is_below : (n : ℕ) (r : Option ℕ) → IfSome r (λ k. k < n) → is_some r ≡ ltb (unwrap_or r n) n
is_below n None h = sym (le-ltb n n (omega arith))
is_below n (Some k) h = sym (lt-ltb k n h)

pub pairs_refer : (token : ℕ) {ws : List ℕ} {r : Option ℕ} {b : Bool} → PairFound (has token) ws r → b ≡ is_some r → PairsRefer token ws b
pairs_refer token {ws} {r} f e =
    let ps = pairs_of ws in
    record {
      refer =
          e ∙ is_below pair_slots r f.within
          ∙ ap₂ ltb f.index (sym (length_rows pair_at pair_words 0 pair_slots (pairs_in ws) [])) ∙ refer_below token ps
          ∙ sym (member_append token (map elevated_token (lives ps)) (map filtered_token (lives ps)));
    }

-- ---- both

pub refer : (token : ℕ) {ws : List ℕ} {s p : Bool} → StationsRefer token ws s → PairsRefer token ws p → Refer token ws (s || p)
refer token f g = record {
  refer = λ σ i e.
      let stations = map station_token σ.stations ++ non_zero (map client_token σ.stations) in
      let elevated = map elevated_token (lives σ.pairs) in
      let filtered = map filtered_token (lives σ.pairs) in
      ap₂ ◌||◌ (f.refer σ i) (g.refer ∙ ap (λ ps. member token (map elevated_token (lives ps) ++ map filtered_token (lives ps))) e)
      ∙ sym (ap (member token) (append_assoc stations elevated filtered) ∙ member_append token stations (elevated ++ filtered));
}
