-- The control words of a valid state: each section has its size, and is read back from its place. A change of one station or of one pair is
-- a change of its row. Assumes nothing.
use Prim.Native.Nat.{ℕ, ◌*◌, ◌<◌}
use mathlib.Core.Path.{◌≡◌, refl, sym, ap, ◌∙◌}
use mathlib.Core.Bool.{Bool, true, false}
use mathlib.Core.Logic.{⊎_elim}
use mathlib.Core.List.{List, [], ◌∷◌}
use lib.ListN.{length, get_or, set}
use Rattle.table.specs.Table.{flat, put_record, length_flat, put_flat}
use Rattle.table.specs.Sections.{Sectioned, sections_long, section_part}
use Rattle.rules.specs.SidRows.{write_sids}
use Rattle.std.specs.Prelude.{if◌then◌else◌}
use Rattle.rules.specs.Table.{live, some_free, placed, exchanged}
use Rattle.rules.specs.Station.{Station, start_station}
use Rattle.rules.specs.Pair.{Pair, is_of}
use Rattle.rules.specs.State.{State, with_stations, station_at, change_station, with_pairs, has_pair, can_link, set_pair}
use Rattle.rules.specs.Index.{free_index, found_index}
use Rattle.rules.specs.Valid.{valid}
use Rattle.rules.specs.Memory.{counter_words, station_words, pair_words, station_section, pair_section, control_sizes, control_words, stations_in, pairs_in, station_row, pair_row, slot_pair, sections, control, sid_section, sids_in}
use Rattle.rules.proofs.Logic.{or_e, not_both, change_at_set}
use Rattle.rules.proofs.Tables.{on_if}
use Rattle.rules.proofs.Index.{placed_set, exchanged_set, free_below, found_below}
use Rattle.rules.proofs.Facts.{valid_facts}
use Rattle.rules.proofs.Rows.{length_station_row, length_slot_pair}
use Rattle.rules.proofs.SidWords.{length_sids}

module _ (σ : State) (v : valid σ ≡ true) where
  pub control_sections : Sectioned control_sizes (sections σ) (control σ)
  unfolding control sections
  control_sections = record {
    words = refl;
    fixed =
        λ i. counter_words
        ∷ (length_flat station_row station_words length_station_row σ.stations ∙ ap (λ (n : ℕ). n * station_words) (valid_facts σ v).loose.stations) i
        ∷ (length_flat slot_pair pair_words length_slot_pair σ.pairs ∙ ap (λ (n : ℕ). n * pair_words) (valid_facts σ v).loose.pairs_sized) i
        ∷ length_sids σ.sids i
        ∷ [];
  }

  pub control_long : length (control σ) ≡ control_words
  control_long = sections_long control_sections

  pub stations_read : stations_in (control σ) ≡ flat station_row σ.stations
  unfolding sections
  stations_read = section_part control_sections station_section

  pub pairs_read : pairs_in (control σ) ≡ flat slot_pair σ.pairs
  unfolding sections
  pairs_read = section_part control_sections pair_section

  pub sids_read : sids_in (control σ) ≡ write_sids σ.sids
  unfolding sections
  sids_read = section_part control_sections sid_section

-- in its words as in its pending bytes
pub row_put : (row : Station → List ℕ) (w : ℕ) → ((x : Station) → length (row x) ≡ w) → (σ : State) (s : ℕ) (f : Station → Station) → s < length σ.stations
    → put_record w s (row (f (station_at σ s))) (flat row σ.stations) ≡ flat row (change_station s f σ).stations
unfolding station_at change_station with_stations
row_put row w wide σ s f h =
    put_flat row w wide s (f (get_or σ.stations s start_station)) σ.stations h ∙ ap (flat row) (sym (change_at_set σ.stations s f start_station))

-- a session's pair in the place of its old one, or else in the lowest free one
unfoldable pub pair_index : State → ℕ → ℕ
pair_index σ session = if has_pair σ session then found_index (is_of session) σ.pairs else free_index σ.pairs

pub pair_index_lem : (σ : State) (session : ℕ) → can_link σ session ≡ true → pair_index σ session < length σ.pairs
unfolding pair_index can_link has_pair
pair_index_lem σ session h =
    on_if (λ (i : ℕ). i < length σ.pairs) (has_pair σ session) _ _
    (λ t. found_below (is_of session) σ.pairs t)
    (λ t. free_below σ.pairs (⊎_elim (λ k. absurd (not_both k t)) (λ k. k) (or_e (has_pair σ session) (some_free σ.pairs) h)))

pub set_pair_lem : (σ : State) (p : Pair) → (set_pair p σ).pairs ≡ set σ.pairs (pair_index σ p.session) (live p)
unfolding set_pair with_pairs pair_index
set_pair_lem σ p = picked (has_pair σ p.session)
  where
    picked : (b : Bool) → (if b then exchanged (is_of p.session) (live p) σ.pairs else placed p σ.pairs) ≡ set σ.pairs (if b then found_index (is_of p.session) σ.pairs else free_index σ.pairs) (live p)
    picked true = exchanged_set (is_of p.session) (live p) σ.pairs
    picked false = placed_set p σ.pairs

pub pair_put : (σ : State) (p : Pair) → can_link σ p.session ≡ true
    → put_record pair_words (pair_index σ p.session) (pair_row p) (flat slot_pair σ.pairs) ≡ flat slot_pair (set_pair p σ).pairs
unfolding slot_pair
pair_put σ p h =
    put_flat slot_pair pair_words length_slot_pair (pair_index σ p.session) (live p) σ.pairs (pair_index_lem σ p.session h) ∙ ap (flat slot_pair) (sym (set_pair_lem σ p))
