-- A linked pair: a session, and the numbers of its elevated token and of its filtered one. Assumes nothing.
use Rattle.std.specs.Prelude.{ℕ, Bool, ◌||◌, eqb, if◌then◌else◌}

pub record Pair : Type 0 where
  pub session : ℕ
  pub elevated : ℕ
  pub filtered : ℕ

unfoldable pub no_pair : Pair
no_pair = record { session = 0; elevated = 0; filtered = 0 }

-- the pair of a session
unfoldable pub is_of : ℕ → Pair → Bool
is_of session p = eqb p.session session

-- token n is in the pair
unfoldable pub has : ℕ → Pair → Bool
has n p = eqb p.elevated n || eqb p.filtered n

-- the other token of a pair that token n is in
unfoldable pub partner : ℕ → Pair → ℕ
partner n p = if eqb p.elevated n then p.filtered else p.elevated
