-- What requests 5 and 6 do with the entries that stand at a place of a body. Assumes nothing.
use Rattle.std.specs.Prelude.{ℕ, ◌≡◌, Result, List, drop}
use Rattle.rules.specs.Number.{got}
use Rattle.rules.specs.Entry.{Entry}
use Rattle.rules.specs.Request.{times, entry}
use Rattle.rules.specs.State.{State}
use Rattle.rules.specs.Decision.{Decision}
use Rattle.handle.specs.declared.Handle.{Handle}
use Rattle.handle.specs.Words.{records_in}
use Rattle.state.specs.declared.parts.Parts.{Parts}
use Rattle.answer.specs.declared.refusal.Refusal.{Refusal}
use Rattle.decide.specs.Carried.{Carried}
use Rattle.decide.specs.declared.outcome.Outcome.{Outcome}

-- the layout was read before: the entries are there
pub record EntriesCarried (rule : State → ℕ → ℕ → List Entry → Decision) (station number : ℕ) (s : List ℕ) (at count : ℕ) (ts ds : List ℕ) (hs : List Handle)
    (cs ts' ds' cs' : List ℕ) (r : Result Outcome Refusal) : Type 0 where
  pub carried : (es : List Entry) (later : List ℕ) → times count entry (drop at s) ≡ got es later
      → Carried (λ σ. rule σ station number es) ts ds hs cs ts' ds' cs' r

-- the same of the parts as they are lent
abbrev pub EntriesCarriedOut : (State → ℕ → ℕ → List Entry → Decision) → ℕ → ℕ → List ℕ → ℕ → ℕ → Parts → Parts → Result Outcome Refusal → Type 0
EntriesCarriedOut rule station number s at count p q r =
    EntriesCarried rule station number s at count p.tokens.now p.dacls.now (records_in p.handles.now) p.control.now q.tokens.now q.dacls.now q.control.now r
