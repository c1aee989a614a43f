-- Valid memory is exactly what a valid state is written as: a valid state is read back from its memory, which is valid, and valid memory is
-- what the valid state that it stands for is written as. The start is such a state. Assumes nothing.
use Prim.Native.Nat.{ℕ, ◌*◌}
use mathlib.Core.Path.{◌≡◌, refl, sym, ap, ap₂, ◌∙◌}
use mathlib.Core.Bool.{true, ◌&&◌}
use mathlib.Core.List.{List, [], ◌∷◌}
use lib.ListN.{length-map}
use borrow.Author.Tests.{eq-eqb}
use Rattle.table.specs.Lists.{map_undo}
use Rattle.table.specs.Table.{flat, length_flat}
use Rattle.table.specs.Rows.{read_rows, rows_written}
use Rattle.rules.specs.SidRows.{sids_at}
use Rattle.rules.specs.Token.{max_dacl}
use Rattle.rules.specs.State.{State, start, token_slots, station_count, pair_slots, number_of, handle_number, elevated_token}
use Rattle.rules.specs.Pair.{Pair}
use Rattle.rules.specs.Table.{Slot}
use Rattle.rules.specs.Valid as Valid
use Rattle.rules.specs.Valid.{stream_valid}
use Rattle.rules.specs.Memory.{Memory, token_words, station_words, pair_words, pending_bytes, slot_row, slot_dacl, slot_handle, station_row, slot_pair, pending_row, sections, control, encode, slot_at, handle_at, station_at, pair_at, decode, sized, is_image, valid}
use Rattle.rules.proofs.Logic.{and_l, and_r, and_i, map_mem}
use Rattle.rules.proofs.Facts.{facts_token, valid_facts}
use Rattle.rules.proofs.Changes.{by_elevated}
use Rattle.rules.proofs.Always.{start_valid}
use Rattle.rules.proofs.Same.{memory_eq, memory_refl}
use Rattle.rules.proofs.SidWords as SidWords
use Rattle.rules.proofs.Control.{control_long, stations_read, pairs_read, sids_read}
use Rattle.rules.proofs.Rows.{length_slot_row, length_slot_dacl, length_station_row, length_slot_pair, length_pending_row, each, each_slot, TokenSlot, slot_back, HandleSlot, handle_back, PairSlot, pair_back, station_back}

module _ (m : Memory) (v : valid m ≡ true) where
  pub valid_written : encode (decode m) ≡ m
  unfolding valid is_image
  valid_written = memory_eq (encode (decode m)) m (search (and_l, and_r))

  pub valid_state : Valid.valid (decode m) ≡ true
  unfolding valid
  valid_state = and_r (sized m && is_image m) _ v

-- rows of no words
flat_none : (ps : List (Slot Pair)) → flat {A = ℕ} (λ (p : Slot Pair). []) ps ≡ []
unfolding flat
flat_none [] = refl
flat_none (p ∷ ps) = flat_none ps

module _ (σ : State) (v : Valid.valid σ ≡ true) where
  pub read_back : decode (encode σ) ≡ σ
  unfolding decode encode control sections flat TokenSlot HandleSlot PairSlot elevated_token
  read_back =
      let f = (valid_facts σ v).loose in
      let ts = σ.tokens.slots in
      let hs = σ.handles.slots in
      λ i. record {
        tokens = record {
          slots =
              rows_written slot_at token_words max_dacl slot_row slot_dacl length_slot_row length_slot_dacl TokenSlot slot_back token_slots ts f.tokens.sized
              (each_slot _ ts (λ t m. (facts_token t (f.each_token t m), (f.tokens.given (number_of t) (map_mem number_of m)).0))) i;
          next = σ.tokens.next;
        };
        handles = record {
          slots = map_undo HandleSlot slot_handle handle_at handle_back hs (each_slot _ hs (λ h m. (f.handles.given (handle_number h) (map_mem handle_number m)).0)) i;
          next = σ.handles.next;
        };
        stations =
            (ap (λ (ws : List ℕ). read_rows station_at station_words pending_bytes station_count ws (flat pending_row σ.stations)) (stations_read σ v)
            ∙ rows_written station_at station_words pending_bytes station_row pending_row length_station_row length_pending_row (λ x. stream_valid x ≡ true) station_back
            station_count σ.stations f.stations (each _ σ.stations f.each_station)) i;
        pairs =
            (ap₂ (read_rows pair_at pair_words 0 pair_slots) (pairs_read σ v) (sym (flat_none σ.pairs))
            ∙ rows_written pair_at pair_words 0 slot_pair (λ p. []) length_slot_pair (λ p. refl) PairSlot pair_back
            pair_slots σ.pairs f.pairs_sized (each_slot _ σ.pairs (λ p m. (f.tokens.given p.elevated (f.live p.elevated (by_elevated σ (map_mem elevated_token m)))).0))) i;
        sids = (ap sids_at (sids_read σ v) ∙ SidWords.read_back σ.sids f.sids) i;
      }

  written_sized : sized (encode σ) ≡ true
  unfolding sized encode
  written_sized =
      let f = (valid_facts σ v).loose in
      let ts = σ.tokens.slots in
      and_i (and_i (and_i (and_i
      (eq-eqb _ _ (length_flat slot_row token_words length_slot_row ts ∙ ap (λ (n : ℕ). n * token_words) f.tokens.sized))
      (eq-eqb _ _ (length_flat slot_dacl max_dacl length_slot_dacl ts ∙ ap (λ (n : ℕ). n * max_dacl) f.tokens.sized)))
      (eq-eqb _ _ (length-map σ.handles.slots slot_handle ∙ f.handles.sized)))
      (eq-eqb _ _ (control_long σ v)))
      (eq-eqb _ _ (length_flat pending_row pending_bytes length_pending_row σ.stations ∙ ap (λ (n : ℕ). n * pending_bytes) f.stations))

  pub written_valid : valid (encode σ) ≡ true
  unfolding valid is_image
  written_valid = rw read_back (and_i (and_i written_sized (memory_refl (encode σ))) v)

-- the start's memory
pub start_written : valid (encode start) ≡ true
start_written = written_valid start start_valid
