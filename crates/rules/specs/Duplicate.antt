-- Request 9: duplicate. Assumes nothing.
use Rattle.std.specs.Prelude.{ℕ, Bool, not, ◌&&◌, ◌||◌, [], eqb, leb, if◌then◌else◌}
use Rattle.rules.specs.Bits.{within}
use Rattle.rules.specs.Mask as Mask
use Rattle.rules.specs.Refusal.{bad_field, table_full}
use Rattle.rules.specs.Privileges.{only_used}
use Rattle.rules.specs.Token.{Token, Identity, new_token, primary, impersonation, no_root, anonymous}
use Rattle.rules.specs.Handle.{Handle}
use Rattle.rules.specs.State.{State}
use Rattle.rules.specs.Decision.{Decision, need◌else◌then◌, with_handle, can_issue, issued}

unfoldable pub retyped : ℕ → ℕ → Identity → Identity
retyped type level i = record { user = i.user; session = i.session; type = type; level = level; integrity = i.integrity; root = i.root }

-- everything but number, modified number and elevation, and the type and level asked for
unfoldable pub copied : ℕ → ℕ → ℕ → Token → Token
copied n type level t =
    record { number = n; modified = n; elevation = 1; identity = retyped type level t.identity; privileges = t.privileges; groups = t.groups; limits = t.limits; defaults = t.defaults; scope = t.scope }

unfoldable pub nobody : Identity
nobody = record { user = anonymous; session = 0; type = impersonation; level = 0; integrity = 0; root = no_root }

-- document 01's 'stripped' copy: nothing is kept but the used privileges
unfoldable pub anonymous_copy : ℕ → Token → Token
anonymous_copy n t = new_token n nobody (only_used t.privileges) []

-- only the type and level asked for make an anonymous copy
unfoldable pub is_anonymous : ℕ → ℕ → Bool
is_anonymous type level = not (eqb type primary) && eqb level 0

-- to primary, the level becomes 0
unfoldable pub duplicated : ℕ → ℕ → ℕ → Token → Token
duplicated n type level t =
    if eqb type primary then copied n primary 0 t else
    if eqb level 0 then anonymous_copy n t else
    copied n impersonation level t

-- from impersonation to impersonation the level may not rise
unfoldable pub valid_level : Token → ℕ → ℕ → Bool
valid_level t type level = not (eqb t.identity.type impersonation && eqb type impersonation) || leb level t.identity.level

unfoldable pub valid_duplicate : Handle → Token → ℕ → ℕ → ℕ → Bool
valid_duplicate h t type level mask =
    (eqb type primary || eqb type impersonation)
    && leb level 3
    && valid_level t type level
    && Mask.valid_mask mask
    && within mask h.mask

unfoldable pub duplicate : State → ℕ → ℕ → ℕ → ℕ → ℕ → Decision
duplicate σ s n type level mask =
    with_handle σ s n Mask.duplicate λ h t.
    need valid_duplicate h t type level mask else bad_field then
    need can_issue σ else table_full then
    issued s mask (duplicated σ.tokens.next type level t) σ
