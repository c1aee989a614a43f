-- SIDs as requests give them: by their numbers (3, 10) or packed (14, 15). Packed ones enter the SID table in the request's order, and the
-- request is then decided over their numbers. Assumes nothing.
use Rattle.std.specs.Prelude.{ℕ, List, [], ◌∷◌}
use Rattle.rules.specs.Group.{Group}
use Rattle.rules.specs.Sid.{Sid}
use Rattle.rules.specs.SidTable.{number_of, entered}

pub data Given : Type 0 where
  by_number : ℕ → Given
  by_sid : Sid → Given

pub record GivenGroup : Type 0 where
  pub sid : Given
  pub attributes : ℕ

unfoldable pub entered_by : Given → List Sid → List Sid
entered_by (by_number n) sids = sids
entered_by (by_sid s) sids = entered s sids

unfoldable pub entered_all : List Given → List Sid → List Sid
entered_all [] sids = sids
entered_all (x ∷ xs) sids = entered_all xs (entered_by x sids)

unfoldable pub number_in : List Sid → Given → ℕ
number_in sids (by_number n) = n
number_in sids (by_sid s) = number_of sids s

unfoldable pub group_sid : GivenGroup → Given
group_sid g = g.sid

unfoldable pub group_in : List Sid → GivenGroup → Group
group_in sids g = record { sid = number_in sids g.sid; attributes = g.attributes }
