-- What enters the SID table: a refused request enters none, and a success the SIDs that it gives packed, in its order. Assumes nothing.
use Rattle.std.specs.Prelude.{◌≡◌, List, [], ◌∷◌, map}
use Rattle.rules.specs.Number.{Read, got, bad}
use Rattle.rules.specs.Given.{Given, group_sid, entered_all}
use Rattle.rules.specs.Request.{Request, parse}
use Rattle.rules.specs.Ladder.{status}
use Rattle.rules.specs.Run.{Serving, served_by}

-- the SIDs that a request gives: the user's, then the groups' (3, 14); those to restrict to (10, 15)
unfoldable pub given_by : Read Request → List Given
given_by bad = []
given_by (got (Request.open_own mask) bytes) = []
given_by (got (Request.close n) bytes) = []
given_by (got (Request.create user session integrity present by_default gs) bytes) = user ∷ map group_sid gs
given_by (got (Request.query n class capacity) bytes) = []
given_by (got (Request.privileges n es) bytes) = []
given_by (got (Request.groups n es) bytes) = []
given_by (got (Request.scope n v) bytes) = []
given_by (got (Request.defaults n owner group flag dacl) bytes) = []
given_by (got (Request.duplicate n type level mask) bytes) = []
given_by (got (Request.restrict n mark removed deny sids) bytes) = sids
given_by (got (Request.install n) bytes) = []
given_by (got (Request.impersonate n) bytes) = []
given_by (got Request.revert bytes) = []
given_by (got (Request.link n m session) bytes) = []
given_by (got (Request.linked n) bytes) = []
given_by (got (Request.evaluate n c) bytes) = []

-- of a body that is served
pub record SidsEntered (x : Serving) : Type 0 where
  pub entered : status (served_by x) ≡ 0 → (served_by x).state.sids ≡ entered_all (given_by (parse x.body)) x.before.sids
  pub none : (status (served_by x) ≡ 0 → ⊥) → (served_by x).state.sids ≡ x.before.sids
