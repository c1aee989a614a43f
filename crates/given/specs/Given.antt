-- What entering a SID gives where the words hold the first 256 SIDs of a list, which may have more: the table that the rule speaks of has
-- room for all. Assumes nothing.
use Rattle.std.specs.Prelude.{ℕ, ◌≤◌, ◌≡◌, true, ◌&&◌, Option, is_some, IfSome, IfNone, List, take}
use Rattle.rules.specs.Sid.{Sid}
use Rattle.rules.specs.SidTable.{max_sids, number_at, number_of, entered, fits_table, sids_valid}
use Rattle.rules.specs.SidRows.{write_sids}

-- the words hold the first 256 of the SIDs
pub record Capped (sids : List Sid) (ws : List ℕ) : Type 0 where
  pub words : ws ≡ write_sids (take max_sids sids)
  pub sound : sids_valid (take max_sids sids) ≡ true

pub record GivenEntered (x : Sid) (ws ws' : List ℕ) (r : Option ℕ) : Type 0 where
  pub held : (sids : List Sid) → Capped sids ws → Capped (entered x sids) ws'
  pub fits : (sids : List Sid) → Capped sids ws → fits_table (entered x sids) ≡ (fits_table sids && is_some r)
  pub number : (sids : List Sid) → Capped sids ws → IfSome r (λ n. n ≡ number_of (entered x sids) x)
  -- without room, it has no number of the first 256, and the words stay as they are
  pub none : (sids : List Sid) → Capped sids ws → IfNone r (number_at max_sids ≤ number_of (entered x sids) x)
  pub same : IfNone r (ws' ≡ ws)
