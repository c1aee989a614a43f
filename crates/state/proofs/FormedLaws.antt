-- Which states are formed, and that a formed state is read back from the parts that hold it. Each part holds its own tables of a state,
-- whatever the others are. Assumes nothing.
use Prim.Native.Nat.{ℕ}
use native.Mathlib.Omega.{arith}
use mathlib.Core.Path.{◌≡◌, refl, sym, ap, ap₂, ◌∙◌}
use mathlib.Core.Bool.{true}
use mathlib.Core.List.{List, [], ◌∷◌, map}
use Rattle.table.specs.Lists.{map_undo}
use Rattle.table.specs.Table.{flat, length_flat}
use Rattle.table.specs.Rows.{read_rows, rows_written}
use Rattle.table.specs.Sections.{section_long, section_part}
use Rattle.rules.specs.Token.{max_dacl}
use Rattle.rules.specs.Valid.{valid}
use Rattle.rules.specs.State.{State, token_slots, pair_slots, number_of, handle_number, elevated_token}
use Rattle.rules.specs.Memory.{token_words, pair_words, pair_section, slot_row, slot_dacl, slot_handle, slot_pair, sections, slot_at, handle_at, pair_at}
use Rattle.rules.proofs.Logic.{map_mem}
use Rattle.rules.proofs.Facts.{facts_token, Loose, valid_facts}
use Rattle.rules.proofs.Changes.{by_elevated}
use Rattle.rules.proofs.Rows.{length_slot_row, length_slot_dacl, length_slot_pair, each_slot, TokenSlot, slot_back, HandleSlot, handle_back, PairSlot, pair_back}
use Rattle.handle.specs.Meaning as handle
use Rattle.handle.specs.declared.Handle.{Handle}
use Rattle.token.specs.Meaning as token
use Rattle.control.specs.Control.{ControlIn}
use Rattle.control.specs.Pairs.{pairs_of}
use Rattle.state.specs.Parts.{TokensIn, HandlesIn}
use Rattle.state.specs.Formed.{Formed}

pub loose_formed : (σ : State) → Loose σ → Formed σ
unfolding number_of handle_number elevated_token
loose_formed σ l = record {
  token_slots_long = l.tokens.sized;
  handle_slots_long = l.handles.sized;
  tokens = λ t m. (facts_token t (l.each_token t m), (l.tokens.given t.number (map_mem number_of m)).0);
  handles = λ h m. (l.handles.given h.number (map_mem handle_number m)).0;
  pairs = λ p m. (l.tokens.given p.elevated (l.live p.elevated (by_elevated σ (map_mem elevated_token m)))).0;
}

pub valid_formed : (σ : State) → valid σ ≡ true → Formed σ
valid_formed σ v = loose_formed σ (valid_facts σ v).loose

-- rows of no words
flat_none : {A : Type 0} (xs : List A) → flat {A = ℕ} (λ (x : A). []) xs ≡ []
unfolding flat
flat_none [] = refl
flat_none (x ∷ xs) = flat_none xs

module _ (σ : State) (f : Formed σ) where
  pub tokens_back : (ts ds : List ℕ) → TokensIn σ ts ds → token.slots_of ts ds ≡ σ.tokens.slots
  unfolding TokenSlot number_of
  tokens_back ts ds i =
      ap₂ token.slots_of i.words i.bytes
      ∙ rows_written slot_at token_words max_dacl slot_row slot_dacl length_slot_row length_slot_dacl TokenSlot slot_back token_slots σ.tokens.slots f.token_slots_long
      (each_slot _ σ.tokens.slots f.tokens)

  pub handles_back : (hs : List Handle) → HandlesIn σ hs → handle.slots_of hs ≡ σ.handles.slots
  unfolding HandleSlot handle_number
  handles_back hs i =
      ap (map handle_at) i.records
      ∙ map_undo HandleSlot slot_handle handle_at handle_back σ.handles.slots (each_slot _ σ.handles.slots f.handles)

  pub pairs_back : (cs : List ℕ) → ControlIn σ cs → pairs_of cs ≡ σ.pairs
  unfolding PairSlot sections
  pairs_back cs i =
      ap₂ (read_rows pair_at pair_words 0 pair_slots) (section_part i.words pair_section) (sym (flat_none σ.pairs))
      ∙ rows_written pair_at pair_words 0 slot_pair (λ p. []) length_slot_pair (λ p. refl) PairSlot pair_back pair_slots σ.pairs
      (omega (arith, section_long i.words pair_section, length_flat slot_pair pair_words length_slot_pair σ.pairs))
      (each_slot _ σ.pairs f.pairs)

-- ---- a part holds its own tables

pub tokens_same : {σ τ : State} {ts ds : List ℕ} → σ.tokens.slots ≡ τ.tokens.slots → TokensIn σ ts ds → TokensIn τ ts ds
tokens_same e i = record { words = i.words ∙ ap (flat slot_row) e; bytes = i.bytes ∙ ap (flat slot_dacl) e }

pub handles_same : {σ τ : State} {hs : List Handle} → σ.handles.slots ≡ τ.handles.slots → HandlesIn σ hs → HandlesIn τ hs
handles_same e i = record { records = i.records ∙ ap (map slot_handle) e }
