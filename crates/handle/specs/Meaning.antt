-- What the code's handles stand for. Assumes nothing.
use Rattle.std.specs.Prelude.{Bool, not, ◌&&◌, List, map, ℕ, eqb}
use Rattle.rules.specs.Handle as rules
use Rattle.rules.specs.Table.{Slot}
use Rattle.rules.specs.Memory.{handle_at}
use Rattle.handle.specs.declared.Handle.{Handle}

abbrev pub handle_of : Handle → rules.Handle
handle_of h = record { station = h.station; number = h.number; token = h.token; mask = h.mask }

-- a handle of number 0 is a free slot
abbrev pub slots_of : List Handle → List (Slot rules.Handle)
slots_of hs = map handle_at (map handle_of hs)

-- the all-zero handle, which a free slot holds
abbrev pub none : Handle
none = record { station = 0; mask = 0; number = 0; token = 0 }

-- ---- tests of one slot, as the code makes them

abbrev pub is_free : Handle → Bool
is_free h = eqb h.number 0

abbrev pub is_named : ℕ → ℕ → Handle → Bool
is_named s n h = not (is_free h) && (eqb h.number n && eqb h.station s)

abbrev pub refers_to : ℕ → Handle → Bool
refers_to t h = not (is_free h) && eqb t h.token
