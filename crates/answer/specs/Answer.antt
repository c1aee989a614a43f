-- What an answer says: its body's bytes, document 01's number first, and which answers there are. Assumes nothing.
use Rattle.std.specs.Prelude.{ℕ, ◌-◌, ◌≤◌, ◌<◌, ◌≡◌, true, List, [], ◌∷◌, ◌++◌, length, drop, replicate}
use Rattle.table.specs.Table.{nth_record}
use Rattle.rules.specs.Number.{encode, encode_all}
use Rattle.rules.specs.Frame.{frame}
use Rattle.rules.specs.Token.{Token, max_dacl}
use Rattle.rules.specs.State.{token_slots}
use Rattle.rules.specs.Memory.{token_words, token_at}
use Rattle.rules.specs.Valid.{token_valid}
use Rattle.rules.specs.AdjustGroups.{report_words}
use Rattle.rules.specs.Query.{class_bytes}
use Rattle.answer.specs.Refusal.{refusal_of}
use Rattle.answer.specs.Class.{class_number}
use Rattle.answer.specs.declared.Answer.{Answer}
use Rattle.answer.specs.declared.Answer.TheVariants as answer

-- the token in a slot
abbrev pub token_in : List ℕ → List ℕ → ℕ → Token
token_in words dacls slot = token_at (nth_record token_words slot words) (nth_record max_dacl slot dacls)

abbrev pub answer_of : List ℕ → List ℕ → Answer → List ℕ
answer_of words dacls (answer.Refused r) = (refusal_of r).number ∷ (refusal_of r).report
answer_of words dacls (answer.Numbered n) = n ∷ []
answer_of words dacls answer.Done = 0 ∷ []
answer_of words dacls (answer.Value v) = 0 ∷ encode v
answer_of words dacls (answer.Values v w) = 0 ∷ encode_all (v ∷ w ∷ [])
answer_of words dacls (answer.Report w) = 0 ∷ encode_all (w ∷ replicate (report_words - 1) 0)
answer_of words dacls (answer.Class slot class) = 0 ∷ class_bytes (token_in words dacls slot) (class_number class)
answer_of words dacls (answer.ClassNumbered slot class) = 0 ∷ class_bytes (token_in words dacls slot) class

-- a refusal's number is one byte, and a class is one of a valid token
abbrev pub Fit : List ℕ → List ℕ → Answer → Type 0
Fit words dacls (answer.Refused r) = Unit {0}
Fit words dacls (answer.Numbered n) = n < 128
Fit words dacls answer.Done = Unit {0}
Fit words dacls (answer.Value v) = Unit {0}
Fit words dacls (answer.Values v w) = Unit {0}
Fit words dacls (answer.Report w) = Unit {0}
Fit words dacls (answer.Class slot class) = (slot < token_slots) × (token_valid (token_in words dacls slot) ≡ true)
Fit words dacls (answer.ClassNumbered slot class) = (slot < token_slots) × (token_valid (token_in words dacls slot) ≡ true)

-- a body's frame fits the buffer
abbrev pub Room : List ℕ → List ℕ → Type 0
Room body o = length (frame body) ≤ length o

-- a body's frame stands at the start of the buffer, and the bytes after it are as they were
pub record WroteFrame (body before after : List ℕ) (r : ℕ) : Type 0 where
  pub size : r ≡ length (frame body)
  pub bytes : after ≡ frame body ++ drop (length (frame body)) before
