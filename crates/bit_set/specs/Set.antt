-- Sets of numbers as bits of words. Assumes nothing.
use Rattle.std.specs.Prelude.{ℕ, ◌/◌, ◌%◌, ◌^◌, Bool, List, get_or, set}
use Rattle.std.specs.Int.Bits.{bit_or}
use Rattle.rules.specs.Bits.{has}

abbrev pub word_bits : ℕ
word_bits = 64

-- number i is in the set
unfoldable pub contains : ℕ → List ℕ → Bool
contains i ws = has (i % word_bits) (get_or ws (i / word_bits) 0)

-- the set with number i, where it has a word for it
unfoldable pub entered : ℕ → List ℕ → List ℕ
entered i ws = set ws (i / word_bits) (bit_or (get_or ws (i / word_bits) 0) (2 ^ (i % word_bits)))
