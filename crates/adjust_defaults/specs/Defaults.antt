-- What request 8's fields do to a token in its rows. Assumes nothing.
use Rattle.std.specs.Prelude.{ℕ, ◌≤◌, ◌≡◌, Bool, true, Result, Ok, Err, List, [], length, if◌then◌else◌}
use Rattle.rules.specs.Token.{Token, max_dacl, with_defaults}
use Rattle.rules.specs.Valid.{token_valid}
use Rattle.rules.specs.Memory.{token_row, dacl_row}
use Rattle.rules.specs.AdjustDefaults.{valid_owner, valid_defaults, or_kept, adjusted_token}
use Rattle.token.specs.Row.{Becomes}
use Rattle.answer.specs.declared.Answer.{Answer}
use Rattle.answer.specs.declared.Answer.TheVariants as answers
use Rattle.answer.specs.declared.refusal.Refusal.{Refusal}
use Rattle.answer.specs.declared.refusal.Refusal.TheVariants as refusal
use Rattle.decide.specs.Ending.{Ending, refused, becomes, RowsEnd}

pub record OwnerJudged (owner : ℕ) (ws : List ℕ) (r : Bool) : Type 0 where
  pub judged : (t : Token) → token_valid t ≡ true → ws ≡ token_row t → r ≡ valid_owner t.groups owner

-- of the DACL only its size is judged
pub record DefaultsJudged (owner group flag size : ℕ) (ws : List ℕ) (r : Bool) : Type 0 where
  pub judged : (t : Token) → token_valid t ≡ true → ws ≡ token_row t → (bytes : List ℕ) → length bytes ≡ size → r ≡ valid_defaults t owner group flag bytes
  -- what writing it asks
  pub fits : r ≡ true → size ≤ max_dacl

abbrev pub with_indexes : ℕ → ℕ → Token → Token
with_indexes owner group t =
    with_defaults (record { owner = or_kept owner t.defaults.owner; primary_group = or_kept group t.defaults.primary_group; dacl = t.defaults.dacl }) t

-- the rows after the change
pub record DefaultsSet (owner group flag : ℕ) (bytes ws bs ws' bs' : List ℕ) : Type 0 where
  pub row : Becomes (adjusted_token owner group flag bytes) ws ws'
  pub dacl : (t : Token) → bs ≡ dacl_row t → bs' ≡ dacl_row (adjusted_token owner group flag bytes t)

-- refused with bad field, or changed
abbrev pub defaults_ending : ℕ → ℕ → ℕ → List ℕ → Token → Ending
defaults_ending owner group flag bytes t =
    if valid_defaults t owner group flag bytes then becomes (adjusted_token owner group flag bytes t) [] else refused refusal.BadField

-- what is answered where the fields were taken, or refused
abbrev pub taken : Result (Unit {0}) Refusal → Answer
taken (Ok x) = answers.Done
taken (Err e) = answers.Refused e

abbrev pub FieldsEnd : (Token → Ending) → (ws bs ws' bs' : List ℕ) → Result (Unit {0}) Refusal → Type 0
FieldsEnd x ws bs ws' bs' r = RowsEnd x ws bs ws' bs' (taken r)
