-- What the code of a request does with the rest of a body, for every valid state that the parts hold. Assumes nothing.
use Rattle.std.specs.Prelude.{ℕ, Result}
use Rattle.rules.specs.Request as rules
use Rattle.rules.specs.Request.{Request}
use Rattle.rules.specs.Serve.{decided}
use Rattle.number.specs.Reader.{rest_of}
use Rattle.number.specs.declared.reader.Reader.{Reader}
use Rattle.state.specs.declared.parts.Parts.{Parts}
use Rattle.answer.specs.declared.refusal.Refusal.{Refusal}
use Rattle.decide.specs.Carried.{CarriedOut}
use Rattle.decide.specs.declared.outcome.Outcome.{Outcome}

-- what a reader has left is read by a layout, decided and carried out
pub record LayoutCarried (layout : rules.Reader Request) (station : ℕ) (rest : Reader) (p q : Parts) (r : Result Outcome Refusal) : Type 0 where
  pub carried : CarriedOut (λ σ. decided σ station (layout (rest_of rest))) p q r
