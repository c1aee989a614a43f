-- A new token by its rows. Assumes nothing.
use Prim.Native.Nat.{ℕ, ◌<◌}
use native.Mathlib.Omega.{arith}
use mathlib.Core.Path.{◌≡◌, refl, sym, ap, ◌∙◌}
use mathlib.Core.List.{List}
use lib.ListN.{set}
use lib.Seq.{set_out, get_or-set_other}
use Rattle.table.specs.Table.{flat, put_record}
use Rattle.rules.specs.Token.{max_dacl}
use Rattle.rules.specs.Table.{live, added}
use Rattle.rules.specs.State.{token_slots, with_tokens, add_token}
use Rattle.rules.specs.Index.{free_index}
use Rattle.rules.specs.Memory.{token_words, token_counter, handle_counter, next_handle, sections, slot_row, slot_dacl}
use Rattle.rules.proofs.Index.{placed_set}
use Rattle.token.specs.Meaning.{slots_of}
use Rattle.token.proofs.Laws.{put_words, put_dacls}
use Rattle.control.specs.Counters.{Stepped}
use Rattle.state.specs.TokenCalls.{RowAdded}
use Rattle.state.proofs.TokenLooks.{slots_read, slots_long}

module _ {ws bs ts ds cs : List ℕ} where
  -- in slot i
  pub row_added : {i : ℕ} {ts' ds' cs' : List ℕ} → i < token_slots → ((ds : List ℕ) → i ≡ free_index (slots_of ts ds))
      → ts' ≡ put_record token_words i ws ts → ds' ≡ put_record max_dacl i bs ds → Stepped token_counter cs cs' → RowAdded ws bs ts ds cs ts' ds' cs'
  unfolding add_token with_tokens added sections slot_row slot_dacl
  row_added {i} l at a b t = record {
    tokens = λ u w k σ v h.
        let ps = σ.tokens.slots in
        let long = slots_long σ v in
        let e : set ps i (live u) ≡ (add_token u σ).tokens.slots = sym (placed_set u ps ∙ ap (λ (j : ℕ). set ps j (live u)) (sym (at ds ∙ ap free_index (slots_read v h)))) in
        record {
          words = a ∙ ap (λ (r : List ℕ). put_record token_words i r ts) w ∙ ap (put_record token_words i (slot_row (live u))) h.words ∙ put_words ps i (omega arith) (live u) ∙ ap (flat slot_row) e;
          bytes = b ∙ ap (λ (r : List ℕ). put_record max_dacl i r ds) k ∙ ap (put_record max_dacl i (slot_dacl (live u))) h.bytes ∙ put_dacls ps i (omega arith) (live u) ∙ ap (flat slot_dacl) e;
        };
    control = λ u σ j. t.control σ (add_token u σ) refl j;
    handle_next = ap next_handle t.word ∙ get_or-set_other cs token_counter handle_counter _ 0 (λ e. omega arith);
  }

  -- no slot is free
  pub row_nowhere : {cs' : List ℕ} → ((ds : List ℕ) → token_slots ≡ free_index (slots_of ts ds)) → Stepped token_counter cs cs' → RowAdded ws bs ts ds cs ts ds cs'
  unfolding add_token with_tokens added sections
  row_nowhere at t = record {
    tokens = λ u w k σ v h.
        let ps = σ.tokens.slots in
        let long = slots_long σ v in
        let out : ps ≡ set ps token_slots (live u) = sym (set_out ps token_slots (live u) (omega arith)) in
        let e : ps ≡ (add_token u σ).tokens.slots = out ∙ sym (placed_set u ps ∙ ap (λ (j : ℕ). set ps j (live u)) (sym (at ds ∙ ap free_index (slots_read v h)))) in
        record { words = h.words ∙ ap (flat slot_row) e; bytes = h.bytes ∙ ap (flat slot_dacl) e };
    control = λ u σ j. t.control σ (add_token u σ) refl j;
    handle_next = ap next_handle t.word ∙ get_or-set_other cs token_counter handle_counter _ 0 (λ e. omega arith);
  }
