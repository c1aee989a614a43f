-- What the crate's values are in the rules. Assumes nothing.
use Rattle.std.specs.Prelude.{ℕ}
use Rattle.rules.specs.Privileges as rules
use Rattle.rules.specs.Entry.{Entry}
use Rattle.privilege.specs.declared.privileges.Privileges.{Privileges}

abbrev pub privileges_of : Privileges → rules.Privileges
privileges_of p = record { present = p.present; enabled = p.enabled; by_default = p.by_default; used = p.used }

abbrev pub entry_of : ℕ → ℕ → Entry
entry_of k v = record { key = k; value = v }
