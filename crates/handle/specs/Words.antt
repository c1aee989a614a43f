-- The handle list inside a call: two words a slot. Assumes nothing.
use Rattle.std.specs.Prelude.{List, [], ◌∷◌, ℕ, zero, suc, ◌+◌, ◌*◌, ◌/◌, ◌%◌, get_or, drop}
use Rattle.rules.specs.State.{handle_slots}
use Rattle.rules.specs.Basic.{word32}
use Rattle.handle.specs.declared.Handle.{Handle}

abbrev pub slot_words : ℕ
slot_words = 2

abbrev pub word16 : ℕ
word16 = 0x10000

abbrev pub first_word : Handle → ℕ
first_word h = h.station + h.mask * word16 + h.number * word32

-- the first word, the token
abbrev pub record_in : List ℕ → Handle
record_in ws = record { station = get_or ws 0 0 % word16; mask = get_or ws 0 0 / word16 % word16; number = get_or ws 0 0 / word32; token = get_or ws 1 0 }

-- of n slots
unfoldable pub records_from : ℕ → List ℕ → List Handle
records_from zero ws = []
records_from (suc n) ws = record_in ws ∷ records_from n (drop slot_words ws)

abbrev pub records_in : List ℕ → List Handle
records_in ws = records_from handle_slots ws
