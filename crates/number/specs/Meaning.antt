-- What the crate's answers say in the terms of the rules, and the bounds of their places. Assumes nothing.
use Rattle.std.specs.Prelude.{ℕ, ◌/◌, ◌≤◌, ◌<◌, max, ◌≡◌, List, length, drop, Option, Some, None}
use Rattle.rules.specs.Number.{Read, got, bad, longer, read_number}
use Rattle.rules.specs.Request.{times}
use Rattle.number.specs.Rest.{after}
use Rattle.number.specs.declared.Number.{Number}

-- ---- a number at a place

abbrev pub number_of : List ℕ → Option Number → Read ℕ
number_of s (Some n) = got n.value (drop n.next s)
number_of s None = bad

abbrev pub Bounds : ℕ → ℕ → ℕ → Option Number → Type 0
Bounds size at limit (Some n) = (at < n.next) × (n.next ≤ size) × (n.value ≤ limit)
Bounds size at limit None = Unit {0}

pub record NumberAt (s : List ℕ) (at limit : ℕ) (r : Option Number) : Type 0 where
  pub means : number_of s r ≡ read_number limit (drop at s)
  pub bounds : Bounds (length s) at limit r

-- ---- a byte b with its top bit set

-- before what stands at a place
pub record LongerAt (s : List ℕ) (at limit b : ℕ) (r : Option Number) : Type 0 where
  pub means : number_of s r ≡ longer limit b (read_number (limit / 128) (drop at s))
  pub bounds : Bounds (length s) at limit r

-- before a rest that ends at next, in any list
pub record Joined (b rest next limit : ℕ) (r : Option Number) : Type 0 where
  pub means : (s : List ℕ) → number_of s r ≡ longer limit b (got rest (drop next s))
  pub bounds : {size at : ℕ} → at < next → next ≤ size → Bounds size at limit r

-- ---- the place after some numbers

abbrev pub skipped_of : List ℕ → Option ℕ → Option (List ℕ)
skipped_of s (Some p) = Some (drop p s)
skipped_of s None = None

abbrev pub Between : ℕ → ℕ → Option ℕ → Type 0
Between low high (Some p) = (low ≤ p) × (p ≤ high)
Between low high None = Unit {0}

pub record Passed (s : List ℕ) (from count limit : ℕ) (r : Option ℕ) : Type 0 where
  pub means : skipped_of s r ≡ after (times count (read_number limit) (drop from s))
  pub bounds : Between from (max from (length s)) r
