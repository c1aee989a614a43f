-- SIDs, packed as MS-DTYP 2.4.2.2 lays them out: revision 1, the number of sub-authorities (at most 15), six authority bytes, then each
-- sub-authority in four bytes, low byte first. Assumes nothing.
use Rattle.std.specs.Prelude.{ℕ, zero, suc, ◌+◌, ◌*◌, ◌/◌, ◌%◌, ◌^◌, Bool, ◌&&◌, List, [], ◌∷◌, ◌++◌, length, take, drop, get_or, eqb, leb, if◌then◌else◌}
use Rattle.rules.specs.Basic.{all, is_below, same}
use Rattle.rules.specs.Number.{Read, got, bad}

pub record Sid : Type 0 where
  pub authority : List ℕ
  pub subs : List ℕ

abbrev pub no_sid : Sid
no_sid = record { authority = []; subs = [] }

abbrev pub max_subs : ℕ
max_subs = 15

unfoldable pub valid_sid : Sid → Bool
valid_sid s =
    eqb (length s.authority) 6 && all (is_below 256) s.authority && leb (length s.subs) max_subs && all (is_below (2 ^ 32)) s.subs

unfoldable pub same_sid : Sid → Sid → Bool
same_sid s t = same s.authority t.authority && same s.subs t.subs

-- ---- numbers in so many bytes, low byte first

unfoldable pub to_bytes : ℕ → ℕ → List ℕ
to_bytes zero n = []
to_bytes (suc k) n = n % 256 ∷ to_bytes k (n / 256)

unfoldable pub from_bytes : List ℕ → ℕ
from_bytes [] = 0
from_bytes (b ∷ bs) = b + 256 * from_bytes bs

-- ---- written

unfoldable pub sub_bytes : List ℕ → List ℕ
sub_bytes [] = []
sub_bytes (n ∷ ns) = to_bytes 4 n ++ sub_bytes ns

unfoldable pub packed : Sid → List ℕ
packed s = 1 ∷ length s.subs ∷ (s.authority ++ sub_bytes s.subs)

-- ---- read

-- the bytes before the sub-authorities
abbrev pub sid_header : ℕ
sid_header = 8

-- the size of the SID that the bytes begin with
unfoldable pub sid_size : List ℕ → ℕ
sid_size bytes = sid_header + 4 * get_or bytes 1 0

unfoldable pub is_packed : List ℕ → Bool
is_packed bytes =
    leb sid_header (length bytes) && eqb (get_or bytes 0 0) 1 && leb (get_or bytes 1 0) max_subs && leb (sid_size bytes) (length bytes)

unfoldable pub subs_in : ℕ → List ℕ → List ℕ
subs_in zero bytes = []
subs_in (suc n) bytes = from_bytes (take 4 bytes) ∷ subs_in n (drop 4 bytes)

unfoldable pub sid_in : List ℕ → Sid
sid_in bytes = record { authority = take 6 (drop 2 bytes); subs = subs_in (get_or bytes 1 0) (drop sid_header bytes) }

unfoldable pub read_sid : List ℕ → Read Sid
read_sid bytes = if is_packed bytes then got (sid_in bytes) (drop (sid_size bytes) bytes) else bad
