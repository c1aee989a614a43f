-- The SID table (document 02, W5: the SID book) gives each SID one number. It is the list of its SIDs in the order of their numbers.
-- Assumes nothing.
use Rattle.std.specs.Prelude.{ℕ, zero, suc, ◌+◌, ◌-◌, Bool, true, false, not, ◌&&◌, ◌||◌, List, [], ◌∷◌, ◌++◌, length, get_or, eqb, leb, ltb, if◌then◌else◌}
use Rattle.rules.specs.Basic.{all}
use Rattle.rules.specs.Token.{anonymous, system}
use Rattle.rules.specs.Sid.{Sid, no_sid, valid_sid, same_sid}

abbrev pub max_sids : ℕ
max_sids = 256

-- the lowest number that is given
abbrev pub first_number : ℕ
first_number = 32

-- the numbers, in their order: 7 and 18 from the start, then 32 and up without gaps
unfoldable pub number_at : ℕ → ℕ
number_at zero = anonymous
number_at (suc zero) = system
number_at (suc (suc k)) = first_number + k

-- n is the number of one of them: two are below 32, and the others follow without gaps
unfoldable pub is_number : List Sid → ℕ → Bool
is_number sids n = eqb n anonymous || eqb n system || (leb first_number n && ltb n (30 + length sids))

-- where number n stands, and the SID that it is of
unfoldable pub place_of_number : ℕ → ℕ
place_of_number n = if eqb n anonymous then 0 else if eqb n system then 1 else n - 30

unfoldable pub sid_of : List Sid → ℕ → Sid
sid_of sids n = get_or sids (place_of_number n) no_sid

-- ---- looked up

unfoldable pub is_in : Sid → List Sid → Bool
is_in s [] = false
is_in s (t ∷ ts) = same_sid s t || is_in s ts

-- where s stands; the length where it does not
unfoldable pub place_of : Sid → List Sid → ℕ
place_of s [] = 0
place_of s (t ∷ ts) = if same_sid s t then 0 else suc (place_of s ts)

unfoldable pub number_of : List Sid → Sid → ℕ
number_of sids s = number_at (place_of s sids)

-- ---- entered: a new SID takes the lowest unused number

unfoldable pub entered : Sid → List Sid → List Sid
entered s sids = if is_in s sids then sids else sids ++ (s ∷ [])

unfoldable pub fits_table : List Sid → Bool
fits_table sids = leb (length sids) max_sids

-- ---- S-1-5-7 and S-1-5-18 stand in it from the start

unfoldable pub nt_sid : ℕ → Sid
nt_sid n = record { authority = 0 ∷ 0 ∷ 0 ∷ 0 ∷ 0 ∷ 5 ∷ []; subs = n ∷ [] }

unfoldable pub start_sids : List Sid
start_sids = nt_sid anonymous ∷ nt_sid system ∷ []

-- ---- valid

unfoldable pub starts_right : List Sid → Bool
starts_right [] = false
starts_right (s ∷ []) = false
starts_right (s ∷ t ∷ ss) = same_sid s (nt_sid anonymous) && same_sid t (nt_sid system)

unfoldable pub different : List Sid → Bool
different [] = true
different (s ∷ ss) = not (is_in s ss) && different ss

unfoldable pub sids_valid : List Sid → Bool
sids_valid sids = fits_table sids && starts_right sids && all valid_sid sids && different sids
