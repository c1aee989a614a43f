-- The eighteen requests and their layouts: the request number, then the fields; nothing may be left. Assumes nothing.
use Rattle.std.specs.Prelude.{ℕ, zero, suc, List, [], ◌∷◌, get_or}
use Rattle.rules.specs.Number.{Read, got, bad, read_number, max16, max32, max64}
use Rattle.rules.specs.Sid.{read_sid}
use Rattle.rules.specs.Given.{Given, by_number, by_sid, GivenGroup}
use Rattle.rules.specs.Entry.{Entry}
use Rattle.rules.specs.Condition.{Condition, all_of, any_of, negated, privilege_enabled, group_enabled, Conditions, none, more, max_depth}

pub data Request : Type 0 where
  open_own : ℕ → Request
  close : ℕ → Request
  create : Given → ℕ → ℕ → ℕ → ℕ → List GivenGroup → Request
  query : ℕ → ℕ → ℕ → Request
  privileges : ℕ → List Entry → Request
  groups : ℕ → List Entry → Request
  scope : ℕ → ℕ → Request
  defaults : ℕ → ℕ → ℕ → ℕ → List ℕ → Request
  duplicate : ℕ → ℕ → ℕ → ℕ → Request
  restrict : ℕ → ℕ → ℕ → List ℕ → List Given → Request
  install : ℕ → Request
  impersonate : ℕ → Request
  revert : Request
  link : ℕ → ℕ → ℕ → Request
  linked : ℕ → Request
  evaluate : ℕ → Condition → Request

-- ---- reading one thing after the other

abbrev pub Reader : Type 0 → Type 0
Reader A = List ℕ → Read A

unfoldable pub follow : {A B : Type 0} → Read A → (A → Reader B) → Read B
follow bad f = bad
follow (got a after) f = f a after

unfoldable pub ◌>>=◌ : {A B : Type 0} → Reader A → (A → Reader B) → Reader B
◌>>=◌ p f = λ bytes. follow (p bytes) f

unfoldable pub give : {A : Type 0} → A → Reader A
give a bytes = got a bytes

-- what has a number that none has
unfoldable pub unknown : {A : Type 0} → Reader A
unknown bytes = bad

-- the body ends here
unfoldable pub end : {A : Type 0} → A → Reader A
end a [] = got a []
end a (b ∷ after) = bad

unfoldable pub byte : Reader ℕ
byte [] = bad
byte (b ∷ after) = got b after

unfoldable pub times : {A : Type 0} → ℕ → Reader A → Reader (List A)
times zero p = give []
times (suc n) p = λ bytes. follow (p bytes) (λ x after. follow (times n p after) (λ xs. give (x ∷ xs)))

unfoldable pub u16 : Reader ℕ
u16 bytes = read_number max16 bytes

unfoldable pub u32 : Reader ℕ
u32 bytes = read_number max32 bytes

unfoldable pub u64 : Reader ℕ
u64 bytes = read_number max64 bytes

-- a SID by its number (3, 10) or packed (14, 15)
unfoldable pub sid_number : Reader Given
sid_number = do
  n ← u32
  give (by_number n)

unfoldable pub packed_sid : Reader Given
packed_sid = do
  s ← read_sid
  give (by_sid s)

unfoldable pub group : Reader Given → Reader GivenGroup
group p = do
  s ← p
  a ← u32
  give (record { sid = s; attributes = a })

unfoldable pub entry : Reader Entry
entry = do
  k ← u32
  v ← u32
  give (record { key = k; value = v })

-- ---- a condition: its kind, then a count and as many conditions (1, 2), a condition (3) or a number (4, 5)

unfoldable pub conditions : ℕ → Reader Condition → Reader Conditions
conditions zero p = give none
conditions (suc n) p = λ bytes. follow (p bytes) (λ c after. follow (conditions n p after) (λ cs. give (more c cs)))

unfoldable pub list_layout : (Conditions → Condition) → Reader Condition → Reader Condition
list_layout make p = do
  count ← u32
  cs ← conditions count p
  give (make cs)

unfoldable pub negated_layout : Reader Condition → Reader Condition
negated_layout p = do
  c ← p
  give (negated c)

unfoldable pub named_layout : (ℕ → Condition) → Reader Condition
named_layout make = do
  n ← u32
  give (make n)

-- by its kind, p reading what stands inside
unfoldable pub kinds : Reader Condition → List (Reader Condition)
kinds p =
    unknown
    ∷ list_layout all_of p
    ∷ list_layout any_of p
    ∷ negated_layout p
    ∷ named_layout privilege_enabled
    ∷ named_layout group_enabled
    ∷ []

-- a condition at most so deep
unfoldable pub condition : ℕ → Reader Condition
condition zero = unknown
condition (suc d) = do
  kind ← u32
  get_or (kinds (condition d)) kind unknown

-- ---- the layouts

-- one number: a mask or a handle (1, 2, 11, 12, 17)
unfoldable pub number_layout : (ℕ → Request) → Reader Request
number_layout request = do
  n ← u32
  end (request n)

-- a handle and counted entries (5, 6)
unfoldable pub entries_layout : (ℕ → List Entry → Request) → Reader Request
entries_layout request = do
  h ← u32
  count ← u32
  es ← times count entry
  end (request h es)

-- p reads a SID
unfoldable pub create_layout : Reader Given → Reader Request
create_layout p = do
  user ← p
  session ← u64
  integrity ← u32
  present ← u64
  by_default ← u64
  count ← u32
  gs ← times count (group p)
  end (create user session integrity present by_default gs)

unfoldable pub query_layout : Reader Request
query_layout = do
  h ← u32
  class ← u32
  capacity ← u32
  end (query h class capacity)

unfoldable pub scope_layout : Reader Request
scope_layout = do
  h ← u32
  v ← u32
  end (scope h v)

unfoldable pub defaults_layout : Reader Request
defaults_layout = do
  h ← u32
  owner ← u16
  group ← u16
  flag ← u32
  size ← u32
  bytes ← times size byte
  end (defaults h owner group flag bytes)

unfoldable pub duplicate_layout : Reader Request
duplicate_layout = do
  h ← u32
  type ← u32
  level ← u32
  mask ← u32
  end (duplicate h type level mask)

unfoldable pub restrict_layout : Reader Given → Reader Request
restrict_layout p = do
  h ← u32
  mark ← u32
  removed ← u64
  deny_count ← u32
  sid_count ← u32
  deny ← times deny_count u32
  sids ← times sid_count p
  end (restrict h mark removed deny sids)

unfoldable pub link_layout : Reader Request
link_layout = do
  elevated ← u32
  filtered ← u32
  session ← u64
  end (link elevated filtered session)

unfoldable pub evaluate_layout : Reader Request
evaluate_layout = do
  h ← u32
  c ← condition max_depth
  end (evaluate h c)

unfoldable pub layouts : List (Reader Request)
layouts =
    unknown
    ∷ number_layout open_own
    ∷ number_layout close
    ∷ create_layout sid_number
    ∷ query_layout
    ∷ entries_layout privileges
    ∷ entries_layout groups
    ∷ scope_layout
    ∷ defaults_layout
    ∷ duplicate_layout
    ∷ restrict_layout sid_number
    ∷ number_layout install
    ∷ number_layout impersonate
    ∷ end revert
    ∷ create_layout packed_sid
    ∷ restrict_layout packed_sid
    ∷ link_layout
    ∷ number_layout linked
    ∷ evaluate_layout
    ∷ []

-- the request that a body is
unfoldable pub parse : Reader Request
parse = do
  n ← u32
  get_or layouts n unknown
