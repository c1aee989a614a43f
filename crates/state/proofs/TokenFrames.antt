-- What a change of one part of a state leaves alone in the others. Assumes nothing.
use Prim.Native.Nat.{ℕ}
use mathlib.Core.Path.{refl}
use mathlib.Core.List.{List}
use Rattle.rules.specs.Token.{Token}
use Rattle.rules.specs.Table.{Slot, Table, with_slots}
use Rattle.rules.specs.Handle as Rules
use Rattle.rules.specs.State.{State, with_tokens, with_handles, put_token, change_token, used}
use Rattle.rules.specs.Memory.{sections}
use Rattle.handle.specs.declared.Handle.{Handle}
use Rattle.control.specs.Control.{ControlIn}
use Rattle.control.proofs.Sections.{control_same}
use Rattle.state.specs.Parts.{TokensIn, HandlesIn}

-- tokens: add_handle, drop_handle, set_token
module _ {σ : State} {ts ds : List ℕ} (i : TokensIn σ ts ds) where
  pub with_handles_lem : (x : Table Rules.Handle) → TokensIn (with_handles x σ) ts ds
  unfolding with_handles
  with_handles_lem x = record { words = i.words; bytes = i.bytes }

-- control words: put_token and released, which give no number
module _ {σ : State} {cs : List ℕ} (j : ControlIn σ cs) where
  pub with_slots_lem : (ps : List (Slot Token)) → ControlIn (with_tokens (with_slots ps σ.tokens) σ) cs
  unfolding with_tokens with_slots sections
  with_slots_lem ps = control_same refl j

  pub used_control : (n s : ℕ) → ControlIn (used n s σ) cs
  unfolding used change_token put_token
  used_control n s = with_slots_lem _

-- handles: put_token, add_token and released
module _ {σ : State} {hs : List Handle} (k : HandlesIn σ hs) where
  pub with_tokens_lem : (x : Table Token) → HandlesIn (with_tokens x σ) hs
  unfolding with_tokens
  with_tokens_lem x = record { records = k.records }

  pub used_handles : (n s : ℕ) → HandlesIn (used n s σ) hs
  unfolding used change_token put_token
  used_handles n s = with_tokens_lem _
