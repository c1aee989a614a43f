-- A token. Assumes nothing.
use Rattle.std.specs.Prelude.{ℕ, zero, suc, ◌+◌, ◌%◌, ◌^◌, Bool, false, not, List, [], get_or}
use Rattle.rules.specs.Basic.{is_empty}
use Rattle.rules.specs.Privileges.{Privileges, existing, granted}
use Rattle.rules.specs.Group.{Group, no_group}

-- what a token keeps as long as it lives
pub record Identity : Type 0 where
  pub user : ℕ
  pub session : ℕ
  pub type : ℕ
  pub level : ℕ
  pub integrity : ℕ
  -- the number of the started or created token that it descends from; 0 for an anonymous copy and whatever is made from one
  pub root : ℕ

-- what requests 10 and 15 limit a copy by
pub record Limits : Type 0 where
  pub restricting : List ℕ
  pub write_restricted : Bool
  pub user_deny_only : Bool

-- what request 8 changes
pub record Defaults : Type 0 where
  pub owner : ℕ
  pub primary_group : ℕ
  pub dacl : List ℕ

pub record Token : Type 0 where
  pub number : ℕ
  pub modified : ℕ
  pub elevation : ℕ
  pub identity : Identity
  pub privileges : Privileges
  pub groups : List Group
  pub limits : Limits
  pub defaults : Defaults
  pub scope : ℕ

abbrev pub max_groups : ℕ
max_groups = 64

abbrev pub max_restricting : ℕ
max_restricting = 16

abbrev pub max_dacl : ℕ
max_dacl = 256

abbrev pub primary : ℕ
primary = 1

abbrev pub impersonation : ℕ
impersonation = 2

-- a level, of Anonymous (0), Identification, Impersonation and Delegation (3)
abbrev pub identification : ℕ
identification = 1

-- the elevations: request 16 makes a pair's tokens Full and Limited
abbrev pub default_elevation : ℕ
default_elevation = 1

abbrev pub full : ℕ
full = 2

abbrev pub limited : ℕ
limited = 3

-- a token of no root
abbrev pub no_root : ℕ
no_root = 0

abbrev pub anonymous : ℕ
anonymous = 7

abbrev pub system : ℕ
system = 18

-- the SID that an index names: 0 the user, k group k - 1
unfoldable pub sid_at : Token → ℕ → ℕ
sid_at t zero = t.identity.user
sid_at t (suc k) = (get_or t.groups k no_group).sid

-- it has restricting SIDs
unfoldable pub is_restricted : Token → Bool
is_restricted t = not (is_empty t.limits.restricting)

-- ---- new tokens

-- of token n, its own root
unfoldable pub primary_of : ℕ → ℕ → ℕ → ℕ → Identity
primary_of n user session integrity = record { user = user; session = session; type = primary; level = 0; integrity = integrity; root = n }

unfoldable pub no_limits : Limits
no_limits = record { restricting = []; write_restricted = false; user_deny_only = false }

unfoldable pub no_defaults : Defaults
no_defaults = record { owner = 0; primary_group = 0; dacl = [] }

-- the modified number is the number, the elevation Default; all else is empty or 0
unfoldable pub new_token : ℕ → Identity → Privileges → List Group → Token
new_token n i p gs =
    record { number = n; modified = n; elevation = 1; identity = i; privileges = p; groups = gs; limits = no_limits; defaults = no_defaults; scope = 0 }

unfoldable pub start_token : Token
start_token = new_token 1 (primary_of 1 system 999 16384) (granted existing existing) []

-- ---- changes

unfoldable pub with_privileges : Privileges → Token → Token
with_privileges p t =
    record { number = t.number; modified = t.modified; elevation = t.elevation; identity = t.identity; privileges = p; groups = t.groups; limits = t.limits; defaults = t.defaults; scope = t.scope }

unfoldable pub with_groups : List Group → Token → Token
with_groups gs t =
    record { number = t.number; modified = t.modified; elevation = t.elevation; identity = t.identity; privileges = t.privileges; groups = gs; limits = t.limits; defaults = t.defaults; scope = t.scope }

unfoldable pub with_defaults : Defaults → Token → Token
with_defaults x t =
    record { number = t.number; modified = t.modified; elevation = t.elevation; identity = t.identity; privileges = t.privileges; groups = t.groups; limits = t.limits; defaults = x; scope = t.scope }

unfoldable pub with_elevation : ℕ → Token → Token
with_elevation x t =
    record { number = t.number; modified = t.modified; elevation = x; identity = t.identity; privileges = t.privileges; groups = t.groups; limits = t.limits; defaults = t.defaults; scope = t.scope }

unfoldable pub with_scope : ℕ → Token → Token
with_scope v t =
    record { number = t.number; modified = t.modified; elevation = t.elevation; identity = t.identity; privileges = t.privileges; groups = t.groups; limits = t.limits; defaults = t.defaults; scope = v }

-- the modified number goes up by one, and from 2^64 - 1 back to 0
unfoldable pub next_modified : Token → Token
next_modified t =
    record { number = t.number; modified = (t.modified + 1) % 2 ^ 64; elevation = t.elevation; identity = t.identity; privileges = t.privileges; groups = t.groups; limits = t.limits; defaults = t.defaults; scope = t.scope }
