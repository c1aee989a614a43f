-- What the code tests of every number of a list. Assumes nothing.
use Rattle.std.specs.Prelude.{ℕ, ◌+◌, Bool, ◌&&◌, List, [], ◌∷◌, eqb, leb, ltb, length, if◌then◌else◌}
use Rattle.rules.specs.Basic.{all, word32}
use Rattle.rules.specs.State.{handle_slots, station_count, pair_slots}

abbrev pub is_narrow : ℕ → Bool
is_narrow w = ltb w word32

-- ---- how often numbers stand in lists

-- the references of handles, stations and linked pairs: each station has two, and so has each pair

abbrev pub station_references : ℕ
station_references = station_count + station_count

abbrev pub pair_references : ℕ
pair_references = pair_slots + pair_slots

abbrev pub reference_slots : ℕ
reference_slots = handle_slots + pair_references + station_references

abbrev pub one : ℕ → ℕ → ℕ
one x y = if eqb x y then 1 else 0

-- how often x stands in a list
unfoldable pub count : ℕ → List ℕ → ℕ
count x [] = 0
count x (y ∷ ys) = one x y + count x ys

-- how often numbers of the first list stand in the second
unfoldable pub tally : List ℕ → List ℕ → ℕ
tally [] ys = 0
tally (x ∷ xs) ys = count x ys + tally xs ys

abbrev pub is_once : List ℕ → ℕ → Bool
is_once xs x = eqb (count x xs) 1

-- below the next, and once in the list
abbrev pub is_given : ℕ → List ℕ → ℕ → Bool
is_given next xs x = ltb x next && eqb (count x xs) 1

abbrev pub is_apart : List ℕ → ℕ → Bool
is_apart xs x = eqb (count x xs) 0

abbrev pub is_referred : List ℕ → ℕ → Bool
is_referred rs x = leb 1 (count x rs)

-- of distinct tokens `ns`: the references `rs` are to all of them and to no other
unfoldable pub refs_test : List ℕ → List ℕ → Bool
refs_test ns rs = all (is_referred rs) ns && eqb (tally ns rs) (length rs)
