-- The groups of a new token, as they are read from a body and entered in its row. Assumes nothing.
use Rattle.std.specs.Prelude.{ℕ, ◌≡◌, Bool, true, ◌&&◌, Option, None, Some, Result, IfOk, List, map, leb, length, drop, if◌then◌else◌}
use Rattle.rules.specs.Basic.{all}
use Rattle.rules.specs.Number.{got}
use Rattle.rules.specs.Group.{Group}
use Rattle.rules.specs.Token.{max_groups}
use Rattle.rules.specs.Memory.{token_words}
use Rattle.rules.specs.Sid.{Sid}
use Rattle.rules.specs.SidTable.{is_number}
use Rattle.rules.specs.Given.{GivenGroup, group_in}
use Rattle.rules.specs.Request.{times, group, sid_number}
use Rattle.rules.specs.Create.{valid_pair, entered}
use Rattle.token.specs.NewRow.{headless}
use Rattle.answer.specs.declared.refusal.Refusal.{Refusal}
use Rattle.answer.specs.declared.refusal.Refusal.TheVariants as refusal
use Rattle.decide.specs.Lookup.{refused}

-- a new token is refused for a bad field first, and then for want of room
abbrev pub new_refusal : (good room : Bool) → Option Refusal
new_refusal good room = if good then (if room then None else Some refusal.TableFull) else Some refusal.BadField

-- a good pair whose SID's number is in the table
unfoldable pub fits_pair : List Sid → ℕ → Group → Bool
fits_pair sids user g = valid_pair user g && is_number sids g.sid

unfoldable pub fits_group : List Sid → ℕ → GivenGroup → Bool
fits_group sids user g = fits_pair sids user (group_in sids g)

-- in a table of so many SIDs
pub record PairFits (user known : ℕ) (g : Group) (r : Bool) : Type 0 where
  pub fits : (sids : List Sid) → length sids ≡ known → r ≡ fits_pair sids user g

-- judged and entered, where they are all there
pub record GroupsRead (user known : ℕ) (s : List ℕ) (at count : ℕ) (ws : List ℕ) (r : Result (Unit {0}) Refusal) : Type 0 where
  pub long : length ws ≡ token_words
  pub refusal : (sids : List Sid) → length sids ≡ known → (gs : List GivenGroup) (later : List ℕ) → times count (group sid_number) (drop at s) ≡ got gs later
      → refused r ≡ new_refusal (leb (length gs) max_groups && all (fits_group sids user) gs) true
  pub given : (sids : List Sid) → length sids ≡ known → (gs : List GivenGroup) (later : List ℕ) → times count (group sid_number) (drop at s) ≡ got gs later
      → IfOk r (λ u. ws ≡ headless (map entered (map (group_in sids) gs)))
