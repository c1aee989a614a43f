-- What is told of the condition, or of the conditions, that the layout reads next. Assumes nothing.
use Rattle.std.specs.Prelude.{ℕ, ◌≡◌, Bool, true, false, ◌&&◌, ◌||◌, List, map, eqb, Option, Some, None}
use Rattle.rules.specs.Number.{Read, got, bad}
use Rattle.rules.specs.Privileges.{granted}
use Rattle.rules.specs.Group.{is_enabled}
use Rattle.rules.specs.Token.{Token, new_token, primary_of}
use Rattle.rules.specs.Memory.{unpack}
use Rattle.rules.specs.Condition.{Condition, Conditions, holds, all_hold, any_holds, known, all_known, max_depth}
use Rattle.rules.specs.Request as layout
use Rattle.rules.specs.Request.{follow, ◌>>=◌, end, u32, condition, conditions}
use Rattle.number.specs.Reader.{rest_of}
use Rattle.condition.specs.declared.Asked.{Asked}
use Rattle.condition.specs.declared.Reading.{Reading}
use Rattle.condition.specs.declared.Told.{Told}

-- the token that is asked: enabled privileges as a word, and groups by their words; nothing else of a token counts
unfoldable pub asked_of : ℕ → List ℕ → Token
asked_of w ws = new_token 0 (primary_of 0 0 0 0) (granted w w) (map unpack ws)

abbrev pub asked : Asked → Token
asked a = asked_of a.enabled a.groups.now

-- a word's group has that SID and is enabled
unfoldable pub is_of : ℕ → ℕ → Bool
is_of sid w = eqb (unpack w).sid sid && is_enabled (unpack w)

-- ---- of one condition, and of a list

unfoldable pub outcome : Token → Condition → Told
outcome t c = record { value = holds t c; known = known c }

-- of all of them, or of any
unfoldable pub list_outcome : Bool → Token → Conditions → Told
list_outcome true t cs = record { value = all_hold t cs; known = all_known cs }
list_outcome false t cs = record { value = any_holds t cs; known = all_known cs }

-- what f tells of what was read, where k says whether what was named before exists
unfoldable pub tell : {A : Type 0} → Bool → (A → Told) → Read A → Read Told
tell k f bad = bad
tell k f (got a after) = got (record { value = (f a).value; known = k && (f a).known }) after

abbrev pub told_of : Reading → Option Bool → Read Told
told_of r (Some v) = got (record { value = v; known = r.known }) (rest_of r.rest)
told_of r None = bad

-- both for all-of, either for any-of
abbrev pub joined : Bool → Bool → Bool → Bool
joined true a b = a && b
joined false a b = a || b

-- a count and so many conditions, each at most d deep
unfoldable pub counted : ℕ → layout.Reader Conditions
counted d = do
  count ← u32
  conditions count (condition d)

-- the answer is what is told of the condition that is read next, at most d deep
abbrev pub ConditionRead : ℕ → Asked → Reading → Reading → Option Bool → Type 0
ConditionRead d a r r' v = told_of r' v ≡ tell r.known (outcome (asked a)) (condition d (rest_of r.rest))

-- of the list that is read next
abbrev pub ConditionsRead : ℕ → Bool → Asked → Reading → Reading → Option Bool → Type 0
ConditionsRead d all a r r' v = told_of r' v ≡ tell r.known (list_outcome all (asked a)) (counted d (rest_of r.rest))

-- ---- of all bytes

unfoldable pub read_whole : layout.Reader Condition
read_whole bytes = follow (condition max_depth bytes) end

-- the meaning, or nothing where it was not read
unfoldable pub verdict_of : Token → Read Condition → Option Told
verdict_of t bad = None
verdict_of t (got c after) = Some (outcome t c)
