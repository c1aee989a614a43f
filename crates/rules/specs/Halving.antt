-- The halvings of a search over a list of records: which places it looks at, and what it finds. Assumes nothing.
use Rattle.std.specs.Prelude.{ℕ, zero, suc, ◌+◌, ◌-◌, ◌/◌, Bool, List, [], ◌∷◌, map, eqb, get_or, if◌then◌else◌}

-- how a record stands to what is sought
pub record Sought (A : Type 0) : Type 0 where
  -- it has the number
  pub hits : A → Bool
  -- it is the station's
  pub owned : A → Bool
  -- the number, if it is in the list, stands behind it
  pub later : A → Bool

-- the place of what is sought, and the places looked at, in their order
pub record Looked : Type 0 where
  pub place : ℕ
  pub looks : List ℕ

unfoldable pub ends : ℕ → Looked
ends place = record { place = place; looks = [] }

unfoldable pub after : ℕ → Looked → Looked
after m r = record { place = r.place; looks = m ∷ r.looks }

-- `size` places from `low` on: a look at the one in their middle, and then the places before it or those behind it. Each of the two has
-- fewer, so that `fuel` of at least the size is enough. Where nothing is found the place is `none`
unfoldable pub halved : {A : Type 0} → Sought A → A → List A → (none fuel low size : ℕ) → Looked
halved t d xs none zero low size = ends none
halved t d xs none (suc f) low size =
    if eqb size 0 then ends none else
    after (low + size / 2)
    (if t.hits (get_or xs (low + size / 2) d) then ends (if t.owned (get_or xs (low + size / 2) d) then low + size / 2 else none)
    else if t.later (get_or xs (low + size / 2) d) then halved t d xs none f (low + size / 2 + 1) (size - size / 2 - 1)
    else halved t d xs none f low (size / 2))

-- the first n places
unfoldable pub search : {A : Type 0} → Sought A → A → List A → (none n : ℕ) → Looked
search t d xs none n = halved t d xs none n 0 n

-- the records at these places
unfoldable pub records_at : {A : Type 0} → A → List A → List ℕ → List A
records_at d xs ps = map (λ (m : ℕ). get_or xs m d) ps
