-- What the fields that were read from a body say. Assumes nothing.
use Rattle.std.specs.Prelude.{ℕ, ◌≤◌, max, ◌≡◌, Bool, true, Option, Some, None, IfSome, List, [], length, drop, get_or, if◌then◌else◌}
use Rattle.rules.specs.Number.{Read, got, bad}
use Rattle.rules.specs.Entry.{Entry}
use Rattle.rules.specs.Sid.{is_packed, sid_in}
use Rattle.rules.specs.Given.{Given, by_sid}
use Rattle.rules.specs.Request as rules
use Rattle.rules.specs.Request.{Request, end, times, u32, packed_sid, group, entry, number_layout, entries_layout, layouts, unknown, parse, create, create_layout, restrict, restrict_layout}
use Rattle.number.specs.Reader.{rest_of}
use Rattle.number.specs.declared.reader.Reader.{Reader}
use Rattle.body.specs.declared.fields.EntriesFields.{EntriesFields}
use Rattle.body.specs.declared.fields.CreateFields.{CreateFields}
use Rattle.body.specs.declared.fields.RestrictFields.{RestrictFields}

-- what a body is read as: whole, by its fields, or not of its layout
abbrev pub whole : {F A : Type 0} → (F → A) → Option F → Read A
whole request (Some f) = got (request f) []
whole request None = bad

-- the request number was read: the rest is read by its layout
pub record After (s : List ℕ) (number : ℕ) (rest : Reader) : Type 0 where
  pub parsed : get_or layouts number unknown (rest_of rest) ≡ parse s
  pub body : rest.body.now ≡ s
  pub inside : rest.at ≤ length s

abbrev pub Begun : List ℕ → Option (ℕ × Reader) → Type 0
Begun s (Some r) = After s r.0 r.1
Begun s None = bad ≡ parse s

-- request 13
pub record NothingRead (rest : Reader) (ok : Bool) : Type 0 where
  pub parsed : (request : Request) → (if ok then got request [] else bad) ≡ end request (rest_of rest)

-- requests 1, 2, 11, 12 and 17
pub record NumberRead (rest : Reader) (value : Option ℕ) : Type 0 where
  pub parsed : (request : ℕ → Request) → whole request value ≡ number_layout request (rest_of rest)

-- ---- lists in a body

-- the values read, none where they are not all there
unfoldable pub listed : {A : Type 0} → Read (List A) → List A
listed (got xs bytes) = xs
listed bad = []

-- count values from a place on
abbrev pub values_at : {A : Type 0} → rules.Reader A → List ℕ → ℕ → ℕ → List A
values_at p s at count = listed (times count p (drop at s))

-- they are all there, before these bytes
abbrev pub There : {A : Type 0} → rules.Reader A → List ℕ → ℕ → ℕ → List ℕ → Type 0
There p s at count later = times count p (drop at s) ≡ got (values_at p s at count) later

-- a list that a reader came to, before these bytes
pub record ListedTo {A : Type 0} (rest : Reader) (p : rules.Reader A) (at count : ℕ) (later : List ℕ) : Type 0 where
  pub there : There p rest.body.now at count later
  pub inside : at ≤ max rest.at (length rest.body.now)

-- and that ends its body
abbrev pub Listed : {A : Type 0} → Reader → rules.Reader A → ℕ → ℕ → Type 0
Listed rest p at count = ListedTo rest p at count []

-- requests 5 and 6
pub record EntriesRead (rest : Reader) (r : Option EntriesFields) : Type 0 where
  pub parsed : (request : ℕ → List Entry → Request) → whole (λ f. request f.handle (values_at entry rest.body.now f.at f.count)) r ≡ entries_layout request (rest_of rest)
  pub there : IfSome r (λ f. Listed rest entry f.at f.count)

-- requests 3 and 14: p reads a SID, and `of` says which the user's field is
pub record CreateRead {U : Type 0} (p : rules.Reader Given) (of : U → Given) (rest : Reader) (r : Option (CreateFields U)) : Type 0 where
  pub parsed : whole (λ f. create (of f.user) f.session f.integrity f.present f.by_default (values_at (group p) rest.body.now f.at f.count)) r ≡ create_layout p (rest_of rest)
  pub there : IfSome r (λ f. Listed rest (group p) f.at f.count)

-- their fields behind a user: bytes that begin with its SID and go on as here are the request
pub record BehindUser {U : Type 0} (p : rules.Reader Given) (user : U) (rest : Reader) (r : Option (CreateFields U)) : Type 0 where
  pub parsed : (bytes : List ℕ) (x : Given) → got x (rest_of rest) ≡ p bytes
      → whole (λ f. create x f.session f.integrity f.present f.by_default (values_at (group p) rest.body.now f.at f.count)) r ≡ create_layout p bytes
  pub same : IfSome r (λ f. f.user ≡ user)
  pub there : IfSome r (λ f. Listed rest (group p) f.at f.count)

-- request 14: the user's SID stands at a place, too
pub record PackedCreateRead (rest : Reader) (r : Option (CreateFields ℕ)) : Type 0 where
  pub read : CreateRead packed_sid (λ at. by_sid (sid_in (drop at rest.body.now))) rest r
  pub user : IfSome r (λ f. (is_packed (drop f.user rest.body.now) ≡ true) × (f.user ≤ max rest.at (length rest.body.now)))

-- requests 10 and 15: two lists, p reading a SID
pub record RestrictRead (p : rules.Reader Given) (rest : Reader) (r : Option RestrictFields) : Type 0 where
  pub parsed : whole (λ f. restrict f.handle f.mark f.removed (values_at u32 rest.body.now f.deny_at f.deny_count) (values_at p rest.body.now f.sid_at f.sid_count)) r
      ≡ restrict_layout p (rest_of rest)
  pub deny : IfSome r (λ f. ListedTo rest u32 f.deny_at f.deny_count (drop f.sid_at rest.body.now))
  pub sids : IfSome r (λ f. Listed rest p f.sid_at f.sid_count)
