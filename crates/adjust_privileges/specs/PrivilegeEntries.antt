-- What request 5's entries do to a token's privileges. Assumes nothing.
use Rattle.std.specs.Prelude.{ℕ, ◌||◌, Option, None, Some, List, [], ◌∷◌, if◌then◌else◌}
use Rattle.rules.specs.Number.{Read, got, bad, encode_all}
use Rattle.rules.specs.Entry.{Entry, valid_entries}
use Rattle.rules.specs.Privileges.{Privileges}
use Rattle.rules.specs.Token.{Token, with_privileges, next_modified}
use Rattle.rules.specs.AdjustPrivileges.{is_reset, valid_entry, adjusted, previous}
use Rattle.privilege.specs.Meaning.{privileges_of}
use Rattle.answer.specs.declared.refusal.Refusal.TheVariants.{BadField}
use Rattle.body.specs.Entries as entries
use Rattle.decide.specs.Ending as Ends
use Rattle.decide.specs.Ending.{Ending, becomes}
use Rattle.adjust_privileges.specs.declared.privilege_entries.Adjusted.{Adjusted}
use Rattle.adjust_privileges.specs.declared.privilege_entries.Progress.{Progress}

-- the privileges after the entries, and which of those named were present and enabled before; or some entry is bad
pub data Outcome : Type 0 where
  done : Privileges → ℕ → ℕ → Outcome
  refused : Outcome

unfoldable pub judged : Privileges → Read (List Entry) → Outcome
judged p (got es bytes) = if is_reset es || valid_entries (valid_entry p) es then done (adjusted es p) (previous es p.present) (previous es p.enabled) else refused
judged p bad = refused

-- how the request ends for a token
abbrev pub ending_of : Token → Outcome → Ending
ending_of t (done p present enabled) = becomes (next_modified (with_privileges p t)) (encode_all (present ∷ enabled ∷ []))
ending_of t refused = Ends.refused BadField

abbrev pub privileges_ending : Read (List Entry) → Token → Ending
privileges_ending es t = ending_of t (judged t.privileges es)

abbrev pub outcome_of : Option Adjusted → Outcome
outcome_of (Some r) = done (privileges_of r.privileges) r.was_present r.was_enabled
outcome_of None = refused

abbrev pub progress_of : Option Progress → entries.Progress Privileges
progress_of (Some g) = entries.going (privileges_of g.made) g.named
progress_of None = entries.stopped
