-- What the code's groups and identities stand for, and the slots of a table of rows. Assumes nothing.
use Rattle.std.specs.Prelude.{ℕ, List}
use Rattle.rules.specs.Group as Group-rules
use Rattle.rules.specs.Token as Rules
use Rattle.rules.specs.Token.{max_dacl}
use Rattle.rules.specs.Table.{Slot}
use Rattle.rules.specs.State.{token_slots}
use Rattle.rules.specs.Memory.{token_words, slot_at}
use Rattle.table.specs.Rows.{read_rows}
use Rattle.token.specs.declared.Group.{Group}
use Rattle.token.specs.declared.Identity.{Identity}

abbrev pub group_of : Group → Group-rules.Group
group_of g = record { sid = g.sid; attributes = g.attributes }

abbrev pub identity_of : Identity → Rules.Identity
identity_of i = record { user = i.user; session = i.session; type = i.kind; level = i.level; integrity = i.integrity; root = i.root }

-- the slots that a table of rows stands for
abbrev pub slots_of : List ℕ → List ℕ → List (Slot Rules.Token)
slots_of ws bs = read_rows slot_at token_words max_dacl token_slots ws bs
