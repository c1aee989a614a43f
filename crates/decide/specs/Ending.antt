-- How a request on one token ends, in the token's row. Assumes nothing.
use Rattle.std.specs.Prelude.{ℕ, ◌≡◌, true, Result, Ok, Err, List, ◌∷◌}
use Rattle.rules.specs.Token.{Token}
use Rattle.rules.specs.Valid.{token_valid}
use Rattle.rules.specs.State.{State, put_token}
use Rattle.rules.specs.Decision.{Served}
use Rattle.rules.specs.Memory.{token_row, dacl_row}
use Rattle.answer.specs.Answer.{answer_of, Fit}
use Rattle.answer.specs.Refusal.{refusal_of}
use Rattle.answer.specs.declared.Answer.{Answer}
use Rattle.answer.specs.declared.Answer.TheVariants as answers
use Rattle.answer.specs.declared.refusal.Refusal.{Refusal}

-- it is refused, or the token becomes another one and the answer has bytes after its status
pub data Ending : Type 0 where
  refused : Refusal → Ending
  becomes : Token → List ℕ → Ending

abbrev pub token_after : Token → Ending → Token
token_after t (refused n) = t
token_after t (becomes u bytes) = u

abbrev pub answered : Ending → List ℕ
answered (refused n) = (refusal_of n).number ∷ (refusal_of n).report
answered (becomes u bytes) = 0 ∷ bytes

-- what the state's token in the row comes to
abbrev pub served : State → Ending → Served
served σ (refused n) = record { state = σ; answer = (refusal_of n).number ∷ (refusal_of n).report }
served σ (becomes u bytes) = record { state = put_token u σ; answer = 0 ∷ bytes }

-- an answer, or a refusal as one
abbrev pub told : Result Answer Refusal → Answer
told (Ok a) = a
told (Err e) = answers.Refused e

-- the row of every valid token, and the answer
pub record RowEnds (x : Token → Ending) (ws ws' : List ℕ) (a : Answer) : Type 0 where
  pub row : (t : Token) → token_valid t ≡ true → ws ≡ token_row t → ws' ≡ token_row (token_after t (x t))
  pub answer : (t : Token) → token_valid t ≡ true → ws ≡ token_row t → (ts ds : List ℕ) → answer_of ts ds a ≡ answered (x t)
  pub fit : (ts ds : List ℕ) → Fit ts ds a

-- the same of its DACL's row
pub record RowsEnd (x : Token → Ending) (ws bs ws' bs' : List ℕ) (a : Answer) : Type 0 where
  pub ends : RowEnds x ws ws' a
  pub dacl : (t : Token) → token_valid t ≡ true → ws ≡ token_row t → bs ≡ dacl_row t → bs' ≡ dacl_row (token_after t (x t))
