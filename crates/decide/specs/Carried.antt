-- What a request's code does: for every valid state that the parts hold, its decision is carried out. Assumes nothing.
use Rattle.std.specs.Prelude.{ℕ, ◌≡◌, true, None, Result, Ok, Err, List}
use Rattle.rules.specs.State.{State}
use Rattle.rules.specs.Valid.{valid}
use Rattle.rules.specs.Decision.{Decision, carried_out}
use Rattle.handle.specs.declared.Handle.{Handle}
use Rattle.handle.specs.Words.{records_in}
use Rattle.state.specs.HandleFacts.{changed}
use Rattle.state.specs.ReleaseFacts.{PartsIn}
use Rattle.state.specs.declared.parts.Parts.{Parts}
use Rattle.answer.specs.Answer.{answer_of, Fit}
use Rattle.answer.specs.declared.Answer.{Answer}
use Rattle.answer.specs.declared.Answer.TheVariants as answers
use Rattle.answer.specs.declared.refusal.Refusal.{Refusal}
use Rattle.decide.specs.declared.outcome.Outcome.{Outcome}

-- the request answers a, and changes no handle
abbrev pub ends : Answer → Outcome
ends a = record { answer = a; change = None }

-- a refusal is answered, and changes no handle
abbrev pub ended : Result Outcome Refusal → Outcome
ended (Ok r) = r
ended (Err e) = ends (answers.Refused e)

-- the parts before and after, and how the request ended
pub record Carried (x : State → Decision) (ts ds : List ℕ) (hs : List Handle) (cs ts' ds' cs' : List ℕ) (r : Result Outcome Refusal) : Type 0 where
  pub parts : (σ : State) → valid σ ≡ true → PartsIn σ ts ds hs cs → PartsIn (carried_out σ (x σ)).state ts' ds' (changed hs (ended r).change) cs'
  pub answer : (σ : State) → valid σ ≡ true → PartsIn σ ts ds hs cs → answer_of ts' ds' (ended r).answer ≡ (carried_out σ (x σ)).answer
  -- it can be written
  pub fit : (σ : State) → valid σ ≡ true → PartsIn σ ts ds hs cs → Fit ts' ds' (ended r).answer

-- the same of the parts as they are lent
abbrev pub CarriedOut : (State → Decision) → Parts → Parts → Result Outcome Refusal → Type 0
CarriedOut x p q r = Carried x p.tokens.now p.dacls.now (records_in p.handles.now) p.control.now q.tokens.now q.dacls.now q.control.now r
