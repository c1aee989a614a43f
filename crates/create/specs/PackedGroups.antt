-- Request 14's groups: their packed SIDs enter a copy of the SID table, which holds the first 256 of the rule's. Assumes nothing.
use Rattle.std.specs.Prelude.{ℕ, ◌≤◌, ◌≡◌, Bool, true, false, ◌&&◌, Option, None, Some, is_some, IfSome, Result, List, map, leb, length, drop, if◌then◌else◌}
use Rattle.rules.specs.Basic.{all, is_below, same}
use Rattle.rules.specs.Number.{got, bad, max32}
use Rattle.rules.specs.Token.{max_groups}
use Rattle.rules.specs.Memory.{token_words}
use Rattle.rules.specs.Sid.{Sid, valid_sid, is_packed, sid_in}
use Rattle.rules.specs.SidTable.{number_of, fits_table}
use Rattle.rules.specs.SidRows.{sid_row, sid_words_valid}
use Rattle.rules.specs.Given.{Given, by_number, by_sid, GivenGroup, group_sid, group_in, entered_by, entered_all}
use Rattle.rules.specs.Request.{times, group, packed_sid}
use Rattle.rules.specs.Create.{valid_pair, entered}
use Rattle.token.specs.NewRow.{headless}
use Rattle.given.specs.Given.{Capped}
use Rattle.answer.specs.declared.refusal.Refusal.{Refusal}
use Rattle.decide.specs.Lookup.{refused}
use Rattle.number.specs.declared.Number.{Number}
use Rattle.create.specs.NewGroups.{new_refusal}

-- ---- a pair, by the rows of its SID and of the user's

unfoldable pub judged_row : List ℕ → List ℕ → ℕ → Bool
judged_row user x a = valid_pair 0 (record { sid = if same user x then 0 else 1; attributes = a })

unfoldable pub judged_given : List ℕ → Given → ℕ → Bool
judged_given user (by_number n) a = false
judged_given user (by_sid x) a = judged_row user (sid_row x) a

unfoldable pub judged_group : List ℕ → GivenGroup → Bool
judged_group user g = judged_given user g.sid g.attributes

-- ---- what is read at a place

pub record RowAt (s : List ℕ) (at : ℕ) (r : List ℕ) : Type 0 where
  pub is : r ≡ sid_row (sid_in (drop at s))
  pub sound : valid_sid (sid_in (drop at s)) ≡ true
  pub bytes : all (is_below 256) s ≡ true

abbrev pub packed_group : List ℕ → ℕ → GivenGroup
packed_group bytes a = record { sid = by_sid (sid_in bytes); attributes = a }

-- the attributes behind the SID, and the place after them
abbrev pub AttributesIn : List ℕ → ℕ → Option Number → Type 0
AttributesIn s at (Some a) = (got (packed_group (drop at s) a.value) (drop a.next s) ≡ group packed_sid (drop at s)) × (is_packed (drop at s) ≡ true) × (a.value ≤ max32)
AttributesIn s at None = bad ≡ group packed_sid (drop at s)

pub record AttributesAt (s : List ℕ) (at : ℕ) (r : Option Number) : Type 0 where
  pub means : AttributesIn s at r

-- ---- SIDs enter

pub record NumberEntered (x : Sid) (ws ws' : List ℕ) (r : Option ℕ) : Type 0 where
  pub sound : sid_words_valid ws' ≡ true
  pub held : (t : List Sid) → Capped t ws → Capped (entered_by (by_sid x) t) ws'
  pub fits : (t : List Sid) → Capped t ws → fits_table (entered_by (by_sid x) t) ≡ (fits_table t && is_some r)
  pub number : (t : List Sid) → Capped t ws → IfSome r (λ n. n ≡ number_of (entered_by (by_sid x) t) x)

-- those of the groups have entered a table that the words hold
pub record GroupsEntered (gs : List GivenGroup) (t : List Sid) (room : Bool) (ws after : List ℕ) : Type 0 where
  pub held : Capped (entered_all (map group_sid gs) t) after
  pub fits : fits_table (entered_all (map group_sid gs) t) ≡ (fits_table t && room)
  pub row : fits_table (entered_all (map group_sid gs) t) ≡ true → ws ≡ headless (map entered (map (group_in (entered_all (map group_sid gs) t)) gs))

-- judged and entered, where they are all there; room says whether every SID is in the table
pub record PackedRead (user s : List ℕ) (at count : ℕ) (before ws after : List ℕ) (r : Result (Unit {0}) Refusal) : Type 0 where
  pub long : length ws ≡ token_words
  pub room : Bool
  pub refusal : (gs : List GivenGroup) (later : List ℕ) → times count (group packed_sid) (drop at s) ≡ got gs later
      → refused r ≡ new_refusal (leb (length gs) max_groups && all (judged_group user) gs) room
  pub taken : (gs : List GivenGroup) (later : List ℕ) → times count (group packed_sid) (drop at s) ≡ got gs later → (leb (length gs) max_groups && all (judged_group user) gs) ≡ true
      → (t : List Sid) → Capped t before → GroupsEntered gs t room ws after
