-- A reader goes on in its body: what it read or passed over, and where it is. Assumes nothing.
use Rattle.std.specs.Prelude.{ℕ, ◌≤◌, max, ◌≡◌, List, length, drop, Option, Some, None}
use Rattle.rules.specs.Number.{Read, got, bad}
use Rattle.rules.specs.Request as request
use Rattle.number.specs.Rest.{after}
use Rattle.number.specs.declared.reader.Reader.{Reader}

-- the bytes not yet read
abbrev pub rest_of : Reader → List ℕ
rest_of r = drop r.at r.body.now

-- a value that was read, before what is left to the reader, or none
abbrev pub value_of : {A : Type 0} → Reader → Option A → Read A
value_of r (Some a) = got a (rest_of r)
value_of r None = bad

-- what is left to the reader once something was passed over, where it was there
abbrev pub left_of : Reader → Option (Unit {0}) → Option (List ℕ)
left_of r (Some u) = Some (rest_of r)
left_of r None = None

-- its place does not fall, and stays in the body where it was in it
pub record Onward (r r' : Reader) : Type 0 where
  pub body : r'.body ≡ r.body
  pub forward : r.at ≤ r'.at
  pub inside : r'.at ≤ max r.at (length r.body.now)

abbrev pub UpTo : ℕ → Option ℕ → Type 0
UpTo limit (Some n) = n ≤ limit
UpTo limit None = Unit {0}

-- a number is read, as p reads it
pub record ReadOn (p : request.Reader ℕ) (limit : ℕ) (r r' : Reader) (n : Option ℕ) : Type 0 where
  pub means : value_of r' n ≡ p (rest_of r)
  pub upto : UpTo limit n
  pub onward : Onward r r'

-- what p reads is passed over
pub record PassedOn {A : Type 0} (p : request.Reader A) (r r' : Reader) (u : Option (Unit {0})) : Type 0 where
  pub means : left_of r' u ≡ after (p (rest_of r))
  pub onward : Onward r r'
