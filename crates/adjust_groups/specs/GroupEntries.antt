-- What request 6's entries do to the words of a token's groups. Assumes nothing.
use Rattle.std.specs.Prelude.{ℕ, ◌≡◌, Bool, not, ◌&&◌, ◌||◌, Option, None, Some, Result, Ok, Err, List, map, get_or, if◌then◌else◌}
use Rattle.rules.specs.Basic.{all}
use Rattle.rules.specs.Number.{got, encode_all}
use Rattle.rules.specs.Entry.{Entry, valid_entries, apply_all}
use Rattle.rules.specs.Request.{times, entry}
use Rattle.rules.specs.Group.{Group, no_group}
use Rattle.rules.specs.Token.{Token}
use Rattle.rules.specs.Memory.{pack, unpack}
use Rattle.rules.specs.AdjustGroups.{is_reset, valid_entry, is_protected, applied, adjusted, enabled_bits, enabled_words, report_words, adjusted_token}
use Rattle.answer.specs.declared.Answer.{Answer}
use Rattle.answer.specs.declared.refusal.Refusal.{Refusal}
use Rattle.answer.specs.declared.refusal.Refusal.TheVariants.{BadField, ProtectedGroup}
use Rattle.body.specs.Entries as entries
use Rattle.decide.specs.Ending.{Ending, refused, becomes, told, RowEnds}
use Rattle.adjust_groups.specs.declared.group_entries.Progress.{Progress}

-- ---- words

abbrev pub groups_in : List ℕ → List Group
groups_in gw = map unpack gw

-- ---- a pass that judges the entries

-- an entry asks for nothing that is protected
unfoldable pub may_entry : ℕ → List Group → Entry → Bool
may_entry user gs e = not (is_protected user e.value (get_or gs e.key no_group))

abbrev pub judging : ℕ → List Group → Entry → Bool → Bool
judging user gs e free = free && may_entry user gs e

abbrev pub progress_of : Option Progress → entries.Progress Bool
progress_of (Some g) = entries.going g.free g.named
progress_of None = entries.stopped

-- ---- all entries: a bad one goes before a protected one

abbrev pub is_good : List Group → List Entry → Bool
is_good gs es = is_reset es || valid_entries (valid_entry gs) es

abbrev pub is_free : ℕ → List Group → List Entry → Bool
is_free user gs es = is_reset es || all (may_entry user gs) es

abbrev pub pick : {A : Type 0} → (good free : Bool) → A → A → A → A
pick good free bad protected done = if good then (if free then done else protected) else bad

abbrev pub judged : {A : Type 0} → ℕ → List Group → List Entry → A → A → A → A
judged user gs es = pick (is_good gs es) (is_free user gs es)

-- the entries are made, once they are judged
pub record EntriesMade (n : ℕ) (bytes gw gw' : List ℕ) : Type 0 where
  pub made : (es : List Entry) (later : List ℕ) → times n entry bytes ≡ got es later → gw' ≡ map pack (apply_all applied es (groups_in gw))

-- the ENABLED bits from before, and the words
pub record GroupsSwitched (user n : ℕ) (bytes gw gw' : List ℕ) (r : Result ℕ Refusal) : Type 0 where
  pub answer : (es : List Entry) (later : List ℕ) → times n entry bytes ≡ got es later
      → r ≡ judged user (groups_in gw) es (Err BadField) (Err ProtectedGroup) (Ok (enabled_bits (groups_in gw)))
  pub words : (es : List Entry) (later : List ℕ) → times n entry bytes ≡ got es later → gw' ≡ judged user (groups_in gw) es gw gw (map pack (adjusted es (groups_in gw)))

-- ---- the token

abbrev pub ending : List Entry → Token → Ending
ending es t =
    judged t.identity.user t.groups es (refused BadField) (refused ProtectedGroup)
    (becomes (adjusted_token es t) (encode_all (enabled_words report_words t.groups)))

pub record RowSwitched (n : ℕ) (bytes ws ws' : List ℕ) (r : Result Answer Refusal) : Type 0 where
  pub ends : (es : List Entry) (later : List ℕ) → times n entry bytes ≡ got es later → RowEnds (ending es) ws ws' (told r)
