-- What the code between a body and its answer does, for every valid state that the parts hold. Assumes nothing.
use Rattle.std.specs.Prelude.{ℕ, ◌≡◌, true, Result, List}
use Rattle.rules.specs.State.{State}
use Rattle.rules.specs.Valid.{valid}
use Rattle.rules.specs.Serve.{decision, serve}
use Rattle.handle.specs.declared.Handle.{Handle}
use Rattle.handle.specs.Words.{records_in}
use Rattle.state.specs.declared.parts.Parts.{Parts}
use Rattle.state.specs.HandleFacts.{changed}
use Rattle.state.specs.ReleaseFacts.{PartsIn}
use Rattle.answer.specs.Answer.{WroteFrame}
use Rattle.answer.specs.declared.refusal.Refusal.{Refusal}
use Rattle.decide.specs.Carried.{CarriedOut}
use Rattle.decide.specs.declared.outcome.Outcome.{Outcome}
use Rattle.serve.specs.declared.Reply.{Reply}

-- the parts hold a valid state
pub record Held (ts ds : List ℕ) (hs : List Handle) (cs : List ℕ) : Type 0 where
  pub state : State
  pub is_valid : valid state ≡ true
  pub parts : PartsIn state ts ds hs cs

-- a whole body
pub record BodyCarried (station : ℕ) (body : List ℕ) (p q : Parts) (r : Result Outcome Refusal) : Type 0 where
  pub carried : CarriedOut (λ σ. decision σ station body) p q r

-- the parts after it hold the rules' state after it, and the buffer has the rules' answer frame before its old bytes
pub record BodyServed (station : ℕ) (body : List ℕ) (p q : Parts) (out out' : List ℕ) (r : Reply) : Type 0 where
  pub parts : (σ : State) → valid σ ≡ true → PartsIn σ p.tokens.now p.dacls.now (records_in p.handles.now) p.control.now
      → PartsIn (serve σ station body).state q.tokens.now q.dacls.now (changed (records_in p.handles.now) r.change) q.control.now
  pub answer : (σ : State) → valid σ ≡ true → PartsIn σ p.tokens.now p.dacls.now (records_in p.handles.now) p.control.now → WroteFrame (serve σ station body).answer out out' r.written
