-- Numbers on the line: low seven bits, then, if anything is left, the top bit set and the rest the same way. Assumes nothing.
use Rattle.std.specs.Prelude.{ℕ, zero, suc, ◌+◌, ◌*◌, ◌-◌, ◌/◌, ◌%◌, Bool, true, false, ◌||◌, List, [], ◌∷◌, ◌++◌, leb, ltb, eqb, if◌then◌else◌}

-- the largest values of the fields' widths
abbrev pub max16 : ℕ
max16 = 0xFFFF

abbrev pub max32 : ℕ
max32 = 0xFFFFFFFF

abbrev pub max64 : ℕ
max64 = 0xFFFFFFFFFFFFFFFF

-- ---- written

-- the number n, last or before the rest
unfoldable pub low_first : Bool → (ℕ → List ℕ) → ℕ → List ℕ
low_first true rest n = n ∷ []
low_first false rest n = (n % 128 + 128) ∷ rest (n / 128)

-- the number n in at most k + 1 bytes
unfoldable pub encode_in : ℕ → ℕ → List ℕ
encode_in zero n = n ∷ []
encode_in (suc k) n = low_first (ltb n 128) (encode_in k) n

-- the number n: n + 1 bytes are always enough
unfoldable pub encode : ℕ → List ℕ
encode n = encode_in n n

unfoldable pub encode_all : List ℕ → List ℕ
encode_all [] = []
encode_all (n ∷ ns) = encode n ++ encode_all ns

-- ---- read

-- a value and the bytes after it, or bytes that are not in the layout
pub data Read (A : Type 0) : Type 0 where
  got : A → List ℕ → Read A
  bad : Read A

-- a first byte with its top bit set, before the rest of the number: a rest of 0 is not the shortest form
unfoldable pub longer : ℕ → ℕ → Read ℕ → Read ℕ
longer top b bad = bad
longer top b (got n bytes) = if eqb n 0 || ltb top (b - 128 + 128 * n) then bad else got (b - 128 + 128 * n) bytes

-- the number in its shortest form that the bytes begin with, of a field whose largest value is top
unfoldable pub read_number : ℕ → List ℕ → Read ℕ
read_number top [] = bad
read_number top (b ∷ bytes) =
    if ltb b 128 then (if leb b top then got b bytes else bad) else longer top b (read_number (top / 128) bytes)
