-- What the parts of a token's row stand for, as values of the code, and what they are written as. Assumes nothing.
use Rattle.std.specs.Prelude.{◌≡◌, ℕ, ◌+◌, ◌*◌, ◌/◌, List, slice_index, set}
use Rattle.rules.specs.Group as Rules-group
use Rattle.rules.specs.Token as Rules
use Rattle.rules.specs.Head as Head
use Rattle.rules.specs.Basic.{word32}
use Rattle.rules.specs.Memory.{low32, low8, pack, unpack, token_row}
use Rattle.privilege.specs.declared.privileges.Privileges.{Privileges}
use Rattle.token.specs.declared.Group.{Group}
use Rattle.token.specs.declared.Identity.{Identity}

abbrev pub group_in : ℕ → Group
group_in w = record { sid = low32 w; attributes = w / word32 }

abbrev pub identity_in : List ℕ → Identity
identity_in ws =
    record {
      user = low32 (slice_index ws Head.user);
      session = slice_index ws Head.session;
      kind = low8 (slice_index ws Head.type);
      level = low8 (slice_index ws Head.level);
      integrity = low32 (slice_index ws Head.integrity);
      root = slice_index ws Head.root;
    }

abbrev pub privileges_in : List ℕ → Privileges
privileges_in ws = record { present = slice_index ws Head.present; enabled = slice_index ws Head.enabled; by_default = slice_index ws Head.by_default; used = slice_index ws Head.used }

abbrev pub privileges_stored : Privileges → List ℕ → List ℕ
privileges_stored p ws = set (set (set (set ws Head.present p.present) Head.enabled p.enabled) Head.by_default p.by_default) Head.used p.used

abbrev pub word_of : Group → ℕ
word_of g = g.sid + g.attributes * word32

-- a change of a group, in its word
abbrev pub on_word : (Rules-group.Group → Rules-group.Group) → ℕ → ℕ
on_word f w = pack (f (unpack w))

-- the row of every token t becomes that of f t
pub record Becomes (f : Rules.Token → Rules.Token) (ws ws' : List ℕ) : Type 0 where
  pub row : (t : Rules.Token) → ws ≡ token_row t → ws' ≡ token_row (f t)
