-- Requests 9 and 10: a copy of the token in a slot, made and issued. Assumes nothing.
use Rattle.std.specs.Prelude.{ℕ, ◌<◌, ◌≡◌, Ok, List, length}
use Rattle.table.specs.Table.{nth_record}
use Rattle.rules.specs.Token as rules
use Rattle.rules.specs.State as state
use Rattle.rules.specs.State.{token_slots}
use Rattle.rules.specs.Decision.{issued}
use Rattle.rules.specs.Memory.{token_words}
use Rattle.handle.specs.declared.Handle.{Handle}
use Rattle.handle.specs.Words.{records_in}
use Rattle.token.specs.Row.{Becomes}
use Rattle.state.specs.TokenCalls.{FoundAt}
use Rattle.state.specs.declared.parts.Parts.{Parts}
use Rattle.decide.specs.declared.outcome.Outcome.{Outcome}
use Rattle.decide.specs.Carried.{Carried}

-- the row of a slot, copied
pub record RowCopied {A : Type 0} (w slot : ℕ) (xs r : List A) : Type 0 where
  pub inside : slot < token_slots
  pub row : r ≡ nth_record w slot xs
  pub long : length r ≡ w

-- the row of every token t becomes that of f t, and stays as long as it is
pub record Remade (f : rules.Token → rules.Token) (ws ws' : List ℕ) : Type 0 where
  pub made : Becomes f ws ws'
  pub long : length ws' ≡ token_words

-- what f makes of the next number and the token in a slot is issued, whatever number the slot is of
pub record CopyIssued (f : ℕ → rules.Token → rules.Token) (slot s mask : ℕ) (ts ds : List ℕ) (hs : List Handle) (cs ts' ds' cs' : List ℕ) (r : Outcome) : Type 0 where
  pub carried : (n : ℕ) → FoundAt n ts slot → Carried (λ σ. issued s mask (f σ.tokens.next (state.token_of σ n)) σ) ts ds hs cs ts' ds' cs' (Ok r)

-- the same of the parts as they are lent
abbrev pub CopyIssuedOut : (ℕ → rules.Token → rules.Token) → (slot s mask : ℕ) → Parts → Parts → Outcome → Type 0
CopyIssuedOut f slot s mask p q r = CopyIssued f slot s mask p.tokens.now p.dacls.now (records_in p.handles.now) p.control.now q.tokens.now q.dacls.now q.control.now r
