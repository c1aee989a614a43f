-- A token's groups and their attributes. Assumes nothing.
use Rattle.std.specs.Prelude.{ℕ, Bool, true, false, ◌&&◌, ◌||◌, eqb}
use Rattle.std.specs.Int.Bits.{bit_or}
use Rattle.rules.specs.Bits.{has, without}

pub record Group : Type 0 where
  pub sid : ℕ
  pub attributes : ℕ

unfoldable pub no_group : Group
no_group = record { sid = 0; attributes = 0 }

unfoldable pub sid_of : Group → ℕ
sid_of g = g.sid

-- ---- the attributes: MANDATORY 1, ENABLED_BY_DEFAULT 2, ENABLED 4, OWNER 8, DENY_ONLY 0x10, LOGON_ID 0xC0000000

unfoldable pub is_mandatory : Group → Bool
is_mandatory g = has 0 g.attributes

unfoldable pub is_enabled_by_default : Group → Bool
is_enabled_by_default g = has 1 g.attributes

unfoldable pub is_enabled : Group → Bool
is_enabled g = has 2 g.attributes

unfoldable pub is_owner : Group → Bool
is_owner g = has 3 g.attributes

unfoldable pub is_deny_only : Group → Bool
is_deny_only g = has 4 g.attributes

unfoldable pub is_logon : Group → Bool
is_logon g = has 30 g.attributes && has 31 g.attributes

-- a mandatory, logon or user-SID group
unfoldable pub is_fixed : ℕ → Group → Bool
is_fixed user g = is_mandatory g || is_logon g || eqb g.sid user

-- ---- changes

-- ENABLED set to a value
unfoldable pub with_enabled : Bool → Group → Group
with_enabled true g = record { sid = g.sid; attributes = bit_or g.attributes 4 }
with_enabled false g = record { sid = g.sid; attributes = without g.attributes 4 }

-- DENY_ONLY gained and ENABLED lost
unfoldable pub denied : Group → Group
denied g = record { sid = g.sid; attributes = without (bit_or g.attributes 0x10) 4 }
