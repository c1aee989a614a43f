-- Privilege sets: four words, privilege n at bit n. Assumes nothing.
use Rattle.std.specs.Prelude.{ℕ, Bool, ◌&&◌, leb}
use Rattle.std.specs.Int.Bits.{bit_or}
use Rattle.rules.specs.Bits.{has, without}

pub record Privileges : Type 0 where
  pub present : ℕ
  pub enabled : ℕ
  pub by_default : ℕ
  pub used : ℕ

abbrev pub create_token : ℕ
create_token = 2

abbrev pub assign_primary_token : ℕ
assign_primary_token = 3

abbrev pub tcb : ℕ
tcb = 7

abbrev pub impersonate : ℕ
impersonate = 29

-- privileges 2 to 36, as a word: 2^37 - 2^2
abbrev pub existing : ℕ
existing = 0x1FFFFFFFFC

-- privilege n exists
unfoldable pub exists : ℕ → Bool
exists n = leb 2 n && leb n 36

-- privilege n is enabled
unfoldable pub is_enabled : ℕ → Privileges → Bool
is_enabled n p = has n p.enabled

-- ---- the four adjustments, of the privileges of a word w

unfoldable pub enable : ℕ → Privileges → Privileges
enable w p = record { present = p.present; enabled = bit_or p.enabled w; by_default = p.by_default; used = p.used }

unfoldable pub disable : ℕ → Privileges → Privileges
disable w p = record { present = p.present; enabled = without p.enabled w; by_default = p.by_default; used = p.used }

-- used stays
unfoldable pub remove : ℕ → Privileges → Privileges
remove w p =
    record { present = without p.present w; enabled = without p.enabled w; by_default = without p.by_default w; used = p.used }

unfoldable pub reset : Privileges → Privileges
reset p = record { present = p.present; enabled = p.by_default; by_default = p.by_default; used = p.used }

-- ---- other sets

unfoldable pub mark_used : ℕ → Privileges → Privileges
mark_used w p = record { present = p.present; enabled = p.enabled; by_default = p.by_default; used = bit_or p.used w }

-- none but the used ones
unfoldable pub only_used : Privileges → Privileges
only_used p = record { present = 0; enabled = 0; by_default = 0; used = p.used }

-- present ones, of which some are enabled by default
unfoldable pub granted : ℕ → ℕ → Privileges
granted present by_default = record { present = present; enabled = by_default; by_default = by_default; used = 0 }
