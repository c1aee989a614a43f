-- The rights of a handle's mask, by their bits. Assumes nothing.
use Rattle.std.specs.Prelude.{ℕ, Bool, not, ◌&&◌, eqb}
use Rattle.rules.specs.Bits.{within}

abbrev pub assign_primary : ℕ
assign_primary = 1

abbrev pub duplicate : ℕ
duplicate = 2

abbrev pub impersonate : ℕ
impersonate = 4

abbrev pub query : ℕ
query = 8

abbrev pub adjust_privileges : ℕ
adjust_privileges = 0x20

abbrev pub adjust_groups : ℕ
adjust_groups = 0x40

abbrev pub adjust_default : ℕ
adjust_default = 0x80

abbrev pub adjust_scope : ℕ
adjust_scope = 0x100

abbrev pub all_rights : ℕ
all_rights = 0x1EF

-- the mask has the right
unfoldable pub permits : ℕ → ℕ → Bool
permits mask right = within right mask

-- a mask that may be asked for
unfoldable pub valid_mask : ℕ → Bool
valid_mask mask = not (eqb mask 0) && within mask all_rights
