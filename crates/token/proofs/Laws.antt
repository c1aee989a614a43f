-- A slot that becomes another one, over the rows that a list of slots is written as. Assumes nothing.
use Rattle.std.proofs.Common.{◌≡◌, ℕ, ◌<◌, List, length, set}
use Rattle.table.specs.Table.{put_record, flat, put_flat}
use Rattle.rules.specs.Token.{Token, max_dacl}
use Rattle.rules.specs.Table.{Slot}
use Rattle.rules.specs.Memory.{token_words, slot_row, slot_dacl}
use Rattle.rules.proofs.Rows.{length_slot_row, length_slot_dacl}

module _ (slots : List (Slot Token)) (i : ℕ) (h : i < length slots) where
  -- a store and a clearing: p is live or free
  pub put_words : (p : Slot Token) → put_record token_words i (slot_row p) (flat slot_row slots) ≡ flat slot_row (set slots i p)
  put_words p = put_flat slot_row token_words length_slot_row i p slots h

  pub put_dacls : (p : Slot Token) → put_record max_dacl i (slot_dacl p) (flat slot_dacl slots) ≡ flat slot_dacl (set slots i p)
  put_dacls p = put_flat slot_dacl max_dacl length_slot_dacl i p slots h
