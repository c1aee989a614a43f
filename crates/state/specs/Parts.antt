-- How the tokens and the handles in lent memory hold a state: what `encode` of the rules writes. Assumes nothing.
use Rattle.std.specs.Prelude.{ℕ, ◌*◌, ◌≡◌, List, map, length}
use Rattle.table.specs.Table.{flat}
use Rattle.rules.specs.Token.{max_dacl}
use Rattle.rules.specs.State.{State, token_slots}
use Rattle.rules.specs.Memory.{token_words, control_words, slot_row, slot_dacl, slot_handle}
use Rattle.handle.specs.Meaning.{handle_of}
use Rattle.handle.specs.declared.Handle.{Handle}
use Rattle.state.specs.declared.parts.Parts.{Parts}

-- the sizes of the lent parts that a request works on
pub record Lent (ts ds cs : List ℕ) : Type 0 where
  pub tokens : length ts ≡ token_slots * token_words
  pub dacls : length ds ≡ token_slots * max_dacl
  pub control : length cs ≡ control_words

pub record TokensIn (σ : State) (ts ds : List ℕ) : Type 0 where
  pub words : ts ≡ flat slot_row σ.tokens.slots
  pub bytes : ds ≡ flat slot_dacl σ.tokens.slots

pub record HandlesIn (σ : State) (hs : List Handle) : Type 0 where
  pub records : map handle_of hs ≡ map slot_handle σ.handles.slots

-- ---- the same references: what a function that changes the parts leaves

abbrev pub SameParts : Parts → Parts → Type 0
SameParts p q =
    (q.handles ≡ p.handles)
    × (q.tokens.ghost_name ≡ p.tokens.ghost_name)
    × (q.dacls.ghost_name ≡ p.dacls.ghost_name)
    × (q.control.ghost_name ≡ p.control.ghost_name)

-- the tokens' words alone may have changed
abbrev pub WordsAlone : Parts → Parts → Type 0
WordsAlone p q = SameParts p q × (q.dacls.now ≡ p.dacls.now) × (q.control.now ≡ p.control.now)
