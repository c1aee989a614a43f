-- What request 18 reads and answers (document 02, W11): a condition has one form on the line, and the answer is exactly its meaning. Assumes nothing.
use Rattle.std.specs.Prelude.{ℕ, suc, ◌≤◌, ◌≡◌, Bool, true, not, ◌&&◌, List, [], ◌∷◌, ◌++◌, leb, if◌then◌else◌}
use Rattle.rules.specs.Number.{got, encode, max32}
use Rattle.rules.specs.Condition.{Condition, all_of, any_of, negated, privilege_enabled, group_enabled, Conditions, none, more, holds, known, depth, max_depth}
use Rattle.rules.specs.Mask as Mask
use Rattle.rules.specs.Mask.{permits}
use Rattle.rules.specs.Table.{is_live}
use Rattle.rules.specs.State.{State, token_of, find_handle, handle_of}
use Rattle.rules.specs.Request as Request
use Rattle.rules.specs.Request.{parse}
use Rattle.rules.specs.Run.{Serving, served_by}

-- ---- a condition, written

unfoldable pub count : Conditions → ℕ
count none = 0
count (more c cs) = suc (count cs)

unfoldable mutual
  pub written : Condition → List ℕ
  written (all_of cs) = encode 1 ++ (encode (count cs) ++ written_all cs)
  written (any_of cs) = encode 2 ++ (encode (count cs) ++ written_all cs)
  written (negated c) = encode 3 ++ written c
  written (privilege_enabled n) = encode 4 ++ encode n
  written (group_enabled n) = encode 5 ++ encode n

  pub written_all : Conditions → List ℕ
  written_all none = []
  written_all (more c cs) = written c ++ written_all cs

-- its numbers and counts have 32 bits
unfoldable mutual
  pub fits : Condition → Bool
  fits (all_of cs) = leb (count cs) max32 && all_fit cs
  fits (any_of cs) = leb (count cs) max32 && all_fit cs
  fits (negated c) = fits c
  fits (privilege_enabled n) = leb n max32
  fits (group_enabled n) = leb n max32

  pub all_fit : Conditions → Bool
  all_fit none = true
  all_fit (more c cs) = fits c && all_fit cs

-- ---- the claims

-- the fields are those of handle n and condition c, in their one form, at most eight deep
pub record InForm (fields : List ℕ) (n : ℕ) (c : Condition) : Type 0 where
  pub deep : depth c ≤ max_depth
  pub fit : fits c ≡ true
  pub handle : n ≤ max32
  pub bytes : fields ≡ encode n ++ written c

-- a body of bytes that begins with 18 asks for condition c by handle n exactly where its fields are of that form
pub record ReadExactly (fields : List ℕ) (n : ℕ) (c : Condition) : Type 0 where
  pub form : parse (18 ∷ fields) ≡ got (Request.evaluate n c) [] → InForm fields n c
  pub back : InForm fields n c → parse (18 ∷ fields) ≡ got (Request.evaluate n c) []

-- 2 unless the handle is live, 3 unless it has the right, 5 unless every privilege named exists, else whether the condition holds of its token
unfoldable pub evaluation : State → ℕ → ℕ → Condition → List ℕ
evaluation σ s n c =
    if not (is_live (find_handle σ s n)) then 2 ∷ [] else
    if not (permits (handle_of σ s n).mask Mask.query) then 3 ∷ [] else
    if not (known c) then 5 ∷ [] else
    0 ∷ (if holds (token_of σ (handle_of σ s n).token) c then 1 else 0) ∷ []

-- of a body that is served: request 18 changes nothing
pub record Evaluated (x : Serving) (n : ℕ) (c : Condition) : Type 0 where
  pub unchanged : (served_by x).state ≡ x.before
  pub answer : (served_by x).answer ≡ evaluation x.before x.station n c

unfoldable pub Evaluating : Serving → Type 0
Evaluating x = (n : ℕ) (c : Condition) (bytes : List ℕ) → parse x.body ≡ got (Request.evaluate n c) bytes → Evaluated x n c
