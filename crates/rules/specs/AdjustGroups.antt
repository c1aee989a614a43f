-- Request 6: groups. Assumes nothing.
use Rattle.std.specs.Prelude.{ℕ, zero, suc, ◌+◌, ◌*◌, Bool, not, ◌&&◌, ◌||◌, List, [], ◌∷◌, map, length, get_or, take, drop, eqb, leb, ltb, if◌then◌else◌}
use Rattle.rules.specs.Basic.{all, change_at}
use Rattle.rules.specs.Number.{encode_all, max32}
use Rattle.rules.specs.Mask.{adjust_groups}
use Rattle.rules.specs.Refusal.{bad_field, protected_group}
use Rattle.rules.specs.Group.{Group, no_group, is_mandatory, is_enabled_by_default, is_enabled, is_deny_only, is_logon, with_enabled}
use Rattle.rules.specs.Token.{Token, with_groups, next_modified}
use Rattle.rules.specs.State.{State, change_token}
use Rattle.rules.specs.Entry.{Entry, is_only, valid_entries, apply_all}
use Rattle.rules.specs.Decision.{Decision, need◌else◌then◌, success, with_handle}

-- the single pair (0xFFFFFFFF, 0)
unfoldable pub is_reset : List Entry → Bool
is_reset es = is_only max32 0 es

unfoldable pub valid_entry : List Group → Entry → Bool
valid_entry gs e = ltb e.key (length gs) && leb e.value 1

-- protected: a mandatory, deny-only or logon group, whichever way the entry points, and a group with the user's SID on disabling
unfoldable pub is_protected : ℕ → ℕ → Group → Bool
is_protected user value g = is_mandatory g || is_deny_only g || is_logon g || (eqb g.sid user && eqb value 0)

unfoldable pub unprotected : Token → Entry → Bool
unprotected t e = not (is_protected t.identity.user e.value (get_or t.groups e.key no_group))

unfoldable pub applied : Entry → List Group → List Group
applied e gs = change_at e.key (with_enabled (eqb e.value 1)) gs

-- ENABLED from value 2, but in deny-only groups
unfoldable pub reset_group : Group → Group
reset_group g = if is_deny_only g then g else with_enabled (is_enabled_by_default g) g

unfoldable pub adjusted : List Entry → List Group → List Group
adjusted es gs = if is_reset es then map reset_group gs else apply_all applied es gs

-- the ENABLED bits, group i at bit i
unfoldable pub enabled_bits : List Group → ℕ
enabled_bits [] = 0
enabled_bits (g ∷ gs) = (if is_enabled g then 1 else 0) + 2 * enabled_bits gs

abbrev pub report_words : ℕ
report_words = 16

-- k words of ENABLED bits, 64 groups to a word
unfoldable pub enabled_words : ℕ → List Group → List ℕ
enabled_words zero gs = []
enabled_words (suc k) gs = enabled_bits (take 64 gs) ∷ enabled_words k (drop 64 gs)

unfoldable pub adjusted_token : List Entry → Token → Token
adjusted_token es t = next_modified (with_groups (adjusted es t.groups) t)

unfoldable pub adjust : State → ℕ → ℕ → List Entry → Decision
adjust σ s n es =
    with_handle σ s n adjust_groups λ h t.
    need is_reset es || valid_entries (valid_entry t.groups) es else bad_field then
    need is_reset es || all (unprotected t) es else protected_group then
    success (change_token h.token (adjusted_token es) σ) (encode_all (enabled_words report_words t.groups))
