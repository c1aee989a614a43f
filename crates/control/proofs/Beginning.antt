-- The start's control words: the counters over zeros, then a token for one station after the other. Assumes nothing.
use Prim.Native.Nat.{ℕ, zero, suc, ◌+◌, ◌-◌, ◌≤◌, ◌<◌}
use native.Mathlib.Numerals.{add-one}
use native.Mathlib.Omega.{arith}
use mathlib.Core.Path.{◌≡◌, refl, sym, ap, ◌∙◌, subst}
use mathlib.Core.List.{List, [], ◌∷◌, ◌++◌}
use lib.ListN.{length, take, drop, set, replicate}
use Rattle.table.specs.Table.{flat}
use Rattle.table.specs.Sections.{Sectioned, place_of, sections_long}
use Rattle.rules.specs.Basic.{change_at}
use Rattle.rules.specs.Station.{no_client, start_station, with_token}
use Rattle.table.specs.Lists.{pad}
use Rattle.rules.specs.Sid.{from_bytes}
use Rattle.rules.specs.SidTable.{start_sids, nt_sid}
use Rattle.rules.specs.SidRows.{sid_words, write_sids, ordered, order, insert, less, row_at, sid_row, pairs}
use Rattle.rules.specs.State.{State, start, station_count, with_stations, change_station, set_token}
use Rattle.rules.specs.Memory.{token_counter, handle_counter, sid_section, control_sizes, control_words, mark, station_row, slot_pair, sections}
use Rattle.rules.proofs.SidWords.{length_sids}
use Rattle.control.specs.Control.{ControlIn}
use Rattle.control.specs.Stations.{TokenSet}
use Rattle.control.proofs.Sections.{control_same}

-- the two SIDs of the start's table, over zeros
pub first_sids : {ws zs : List ℕ} → zs ≡ replicate sid_words 0
    → ws ≡ set (set (set (set (set (set zs 0 2) 2 1) 257 0x500000000000101) 258 7) 266 0x500000000000101) 267 18 → ws ≡ write_sids start_sids
unfolding write_sids ordered order insert less row_at pad flat sid_row pairs from_bytes start_sids nt_sid
first_sids z e = rw (e, z)

-- the start, but for the tokens of all stations from number i on
unfoldable pub begun : ℕ → State
begun zero = with_stations (replicate station_count (with_token 0 start_station)) start
begun (suc i) = set_token i 1 (begun i)

pub record Begun (ws : List ℕ) (i : ℕ) : Type 0 where
  pub within : i ≤ station_count
  pub long : length ws ≡ control_words
  pub held : ControlIn (begun i) ws

-- the words cleared
pub cleared : (ws : List ℕ) {zs : List ℕ} → length ws ≡ control_words → zs ≡ replicate (length ws) 0 → zs ≡ replicate control_words 0
cleared ws l e = e ∙ ap (λ (n : ℕ). replicate n 0) l

-- what the table is written over
module _ {zs : List ℕ} (z : zs ≡ replicate control_words 0) where
  pub sids_zero : take (control_words - place_of control_sizes sid_section) (drop (place_of control_sizes sid_section) (set (set zs token_counter 2) handle_counter 1)) ≡ replicate sid_words 0
  sids_zero = rw z

  pub sids_long : length (take (control_words - place_of control_sizes sid_section) (drop (place_of control_sizes sid_section) (set (set zs token_counter 2) handle_counter 1))) ≡ sid_words
  sids_long = rw z

-- the words before the SID table, over zeros, and the table
pub begun_none : {ws zs xs : List ℕ} → zs ≡ replicate control_words 0 → xs ≡ write_sids start_sids
    → ws ≡ take (place_of control_sizes sid_section) (set (set zs token_counter 2) handle_counter 1) ++ (xs ++ drop (control_words - place_of control_sizes sid_section) (drop (place_of control_sizes sid_section) (set (set zs token_counter 2) handle_counter 1))) → Begun ws 0
unfolding begun start with_stations sections flat station_row slot_pair with_token start_station no_client mark
begun_none {ws} z x e =
    let words : Sectioned control_sizes (sections (begun 0)) ws = record { words = rw (e, z, x); fixed = ap (λ (n : ℕ). 2 ∷ 40 ∷ 12 ∷ n ∷ []) (length_sids start_sids) } in
    record { within = omega arith; long = sections_long words; held = record { words = words } }

pub begun_more : {ws ws' : List ℕ} {i : ℕ} → Begun ws i → i < station_count → length ws' ≡ length ws → TokenSet i 1 ws ws' → Begun ws' (i + 1)
unfolding begun
begun_more {ws' = ws'} {i} b h l t = record {
  within = omega arith;
  long = l ∙ b.long;
  held = subst (λ (n : ℕ). ControlIn (begun n) ws') (sym (add-one i)) (t.control (begun i) b.held);
}

pub begun_all : {ws : List ℕ} {i : ℕ} → Begun ws i → station_count ≤ i → ControlIn start ws
unfolding begun start with_stations change_station set_token change_at with_token start_station sections
begun_all {ws} {i} b h = control_same refl (subst (λ (n : ℕ). ControlIn (begun n) ws) {x = i} {y = station_count} (omega (arith, b.within)) b.held)
