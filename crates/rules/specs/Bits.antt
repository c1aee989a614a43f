-- Words as sets of bits. `bit_and` and `bit_or` of lib.Bits are the operations `&` and `|`. Assumes nothing.
use Rattle.std.specs.Prelude.{ℕ, ◌-◌, ◌/◌, ◌%◌, ◌^◌, Bool, eqb}
use Rattle.std.specs.Int.Bits.{bit_and}

-- bit n of a word is set
unfoldable pub has : ℕ → ℕ → Bool
has n w = eqb (w / 2 ^ n % 2) 1

-- the bits of a that b lacks
unfoldable pub without : ℕ → ℕ → ℕ
without a b = a - bit_and a b

-- b has every bit of a
unfoldable pub within : ℕ → ℕ → Bool
within a b = eqb (bit_and a b) a
