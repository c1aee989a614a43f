-- What a station acts for, and which requests change it: demand 3's claims of requests 12 and 13. Assumes nothing.
use Rattle.std.specs.Prelude.{ℕ, ◌≤◌, ◌≡◌, Bool, true, false, ◌⊎◌}
use Rattle.rules.specs.Number.{Read, got, bad}
use Rattle.rules.specs.Token.{Token, impersonation}
use Rattle.rules.specs.Station.{Client}
use Rattle.rules.specs.State.{State, client_at}
use Rattle.rules.specs.Request.{Request, parse}
use Rattle.rules.specs.Ladder.{status}
use Rattle.rules.specs.Run.{Serving, served_by}
use Rattle.rules.specs.Growth.{Live}

-- c's token is live and for impersonation, and the level in force is at most the token's own
pub record ActsFor (σ : State) (c : Client) : Type 0 where
  pub token : Token
  pub live : Live token σ
  pub number : token.number ≡ c.token
  pub type : token.identity.type ≡ impersonation
  pub level : c.level ≤ token.identity.level

-- the request is 12 or 13
unfoldable pub sets_client : Read Request → Bool
sets_client bad = false
sets_client (got (Request.open_own mask) bytes) = false
sets_client (got (Request.close n) bytes) = false
sets_client (got (Request.create user session integrity present by_default gs) bytes) = false
sets_client (got (Request.query n class capacity) bytes) = false
sets_client (got (Request.privileges n es) bytes) = false
sets_client (got (Request.groups n es) bytes) = false
sets_client (got (Request.scope n v) bytes) = false
sets_client (got (Request.defaults n owner group flag dacl) bytes) = false
sets_client (got (Request.duplicate n type level mask) bytes) = false
sets_client (got (Request.restrict n mark removed deny sids) bytes) = false
sets_client (got (Request.install n) bytes) = false
sets_client (got (Request.impersonate n) bytes) = true
sets_client (got Request.revert bytes) = true
sets_client (got (Request.link n m session) bytes) = false
sets_client (got (Request.linked n) bytes) = false
sets_client (got (Request.evaluate n c) bytes) = false

-- the body is a request 12 or 13 of station k, and succeeds
pub record SetBy (x : Serving) (k : ℕ) : Type 0 where
  pub station : k ≡ x.station
  pub request : sets_client (parse x.body) ≡ true
  pub succeeds : status (served_by x) ≡ 0

-- of a body that is served: nothing else changes what station k acts for
unfoldable pub ClientKept : Serving → ℕ → Type 0
ClientKept x k = (client_at (served_by x).state k ≡ client_at x.before k) ⊎ SetBy x k
