-- The ladder: a status is 0 exactly when all checks pass, and else the refusal of the lowest rank whose check fails. Assumes nothing.
use Rattle.std.specs.Prelude.{ℕ, ◌≡◌, true, false, List, [], ◌∷◌, get_or, if◌then◌else◌}
use Rattle.rules.specs.Basic.{member}
use Rattle.rules.specs.Refusal.{ranks}
use Rattle.rules.specs.State.{State}
use Rattle.rules.specs.Decision.{Decision, need◌else◌then◌, success, Served}
use Rattle.rules.specs.Serve.{decision, serve}

-- the numbers of the checks that fail
unfoldable pub failing : Decision → List ℕ
failing (need◌else◌then◌ true r rest) = failing rest
failing (need◌else◌then◌ false r rest) = r.number ∷ failing rest
failing (success after bytes) = []

-- the first of the ranks that is one of the numbers; 0 if none is
unfoldable pub first_of : List ℕ → List ℕ → ℕ
first_of [] ns = 0
first_of (r ∷ rs) ns = if member r ns then r else first_of rs ns

-- the answer's first number
unfoldable pub status : Served → ℕ
status r = get_or r.answer 0 0

pub record Ladder (σ : State) (s : ℕ) (body : List ℕ) : Type 0 where
  -- the refusal of lowest rank that applies; 0 if none does
  pub lowest_first : status (serve σ s body) ≡ first_of ranks (failing (decision σ s body))
  -- a status of 0 means that no check fails: no refusal is numbered 0
  pub passes : status (serve σ s body) ≡ 0 → failing (decision σ s body) ≡ []
  -- a refusal leaves the state as it was
  pub unchanged : (status (serve σ s body) ≡ 0 → ⊥) → (serve σ s body).state ≡ σ
