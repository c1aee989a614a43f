-- What linked pairs hold, and which request changes them: demand 3's claims of request 16. Assumes nothing.
use Rattle.std.specs.Prelude.{ℕ, ◌≡◌, ◌⊎◌, List}
use Rattle.rules.specs.Number.{got}
use Rattle.rules.specs.Token.{Token, primary, full, limited}
use Rattle.rules.specs.Pair.{Pair}
use Rattle.rules.specs.State.{State}
use Rattle.rules.specs.Request as Request
use Rattle.rules.specs.Request.{parse}
use Rattle.rules.specs.Ladder.{status}
use Rattle.rules.specs.Run.{Serving, served_by}
use Rattle.rules.specs.Growth.{Live}

-- token n is live, of elevation e, primary and of session s
pub record InPair (σ : State) (n e s : ℕ) : Type 0 where
  pub token : Token
  pub live : Live token σ
  pub number : token.number ≡ n
  pub elevation : token.elevation ≡ e
  pub type : token.identity.type ≡ primary
  pub session : token.identity.session ≡ s

-- the pair's tokens are live, Full and Limited, primary, of its session and of one user
pub record Linked (σ : State) (p : Pair) : Type 0 where
  pub elevated : InPair σ p.elevated full p.session
  pub filtered : InPair σ p.filtered limited p.session
  pub user : elevated.token.identity.user ≡ filtered.token.identity.user

-- the body is a request 16, and succeeds
pub record Links (x : Serving) : Type 0 where
  pub elevated : ℕ
  pub filtered : ℕ
  pub session : ℕ
  pub bytes : List ℕ
  pub request : parse x.body ≡ got (Request.link elevated filtered session) bytes
  pub succeeds : status (served_by x) ≡ 0

-- of a body that is served: nothing else changes the pairs
unfoldable pub PairsKept : Serving → Type 0
PairsKept x = ((served_by x).state.pairs ≡ x.before.pairs) ⊎ Links x

-- nor a token's elevation
unfoldable pub ElevationKept : Serving → Type 0
ElevationKept x =
    (t u : Token) → Live t x.before → Live u (served_by x).state → u.number ≡ t.number
    → (u.elevation ≡ t.elevation) ⊎ Links x
