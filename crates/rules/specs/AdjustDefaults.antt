-- Request 8: default owner, primary group and DACL. Assumes nothing.
use Rattle.std.specs.Prelude.{ℕ, zero, suc, Bool, true, ◌&&◌, ◌||◌, List, [], length, get_or, eqb, leb, ltb, if◌then◌else◌}
use Rattle.rules.specs.Basic.{is_empty}
use Rattle.rules.specs.Mask.{adjust_default}
use Rattle.rules.specs.Refusal.{bad_field}
use Rattle.rules.specs.Group.{Group, no_group, is_owner}
use Rattle.rules.specs.Token.{Token, Defaults, max_dacl, with_defaults, next_modified}
use Rattle.rules.specs.State.{State, change_token}
use Rattle.rules.specs.Decision.{Decision, need◌else◌then◌, success, with_handle}

abbrev pub no_change : ℕ
no_change = 0xFFFF

-- an owner index names the user or an OWNER group
unfoldable pub valid_owner : List Group → ℕ → Bool
valid_owner gs zero = true
valid_owner gs (suc k) = ltb k (length gs) && is_owner (get_or gs k no_group)

-- a primary-group index names the user or any group
unfoldable pub valid_group : List Group → ℕ → Bool
valid_group gs i = leb i (length gs)

-- flag 0 goes with no bytes, flag 1 with at most 256
unfoldable pub valid_dacl : ℕ → List ℕ → Bool
valid_dacl flag bytes = (eqb flag 0 && is_empty bytes) || (eqb flag 1 && leb (length bytes) max_dacl)

unfoldable pub valid_defaults : Token → ℕ → ℕ → ℕ → List ℕ → Bool
valid_defaults t owner group flag bytes =
    (eqb owner no_change || valid_owner t.groups owner)
    && (eqb group no_change || valid_group t.groups group)
    && valid_dacl flag bytes

unfoldable pub or_kept : ℕ → ℕ → ℕ
or_kept new old = if eqb new no_change then old else new

unfoldable pub adjusted : ℕ → ℕ → ℕ → List ℕ → Defaults → Defaults
adjusted owner group flag bytes x =
    record { owner = or_kept owner x.owner; primary_group = or_kept group x.primary_group; dacl = if eqb flag 1 then bytes else x.dacl }

unfoldable pub adjusted_token : ℕ → ℕ → ℕ → List ℕ → Token → Token
adjusted_token owner group flag bytes t = next_modified (with_defaults (adjusted owner group flag bytes t.defaults) t)

unfoldable pub adjust : State → ℕ → ℕ → ℕ → ℕ → ℕ → List ℕ → Decision
adjust σ s n owner group flag bytes =
    with_handle σ s n adjust_default λ h t.
    need valid_defaults t owner group flag bytes else bad_field then
    success (change_token h.token (adjusted_token owner group flag bytes) σ) []
