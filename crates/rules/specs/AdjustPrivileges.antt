-- Request 5: privileges. Assumes nothing.
use Rattle.std.specs.Prelude.{ℕ, ◌+◌, ◌^◌, Bool, ◌&&◌, ◌||◌, List, [], ◌∷◌, eqb, if◌then◌else◌}
use Rattle.std.specs.Int.Bits.{bit_and}
use Rattle.rules.specs.Number.{encode_all}
use Rattle.rules.specs.Bits.{has}
use Rattle.rules.specs.Mask.{adjust_privileges}
use Rattle.rules.specs.Refusal.{bad_field}
use Rattle.rules.specs.Privileges.{Privileges, exists, enable, disable, remove, reset}
use Rattle.rules.specs.Token.{Token, with_privileges, next_modified}
use Rattle.rules.specs.State.{State, change_token}
use Rattle.rules.specs.Entry.{Entry, is_only, valid_entries, apply_all}
use Rattle.rules.specs.Decision.{Decision, need◌else◌then◌, success, with_handle}

-- the single pair (0, 0x80000000)
unfoldable pub is_reset : List Entry → Bool
is_reset es = is_only 0 0x80000000 es

-- 0 disable, 2 enable, 4 remove; an absent one is not enabled
unfoldable pub valid_entry : Privileges → Entry → Bool
valid_entry p e = exists e.key && (eqb e.value 0 || eqb e.value 4 || (eqb e.value 2 && has e.key p.present))

unfoldable pub applied : Entry → Privileges → Privileges
applied e p =
    if eqb e.value 2 then enable (2 ^ e.key) p else
    if eqb e.value 4 then remove (2 ^ e.key) p else
    disable (2 ^ e.key) p

unfoldable pub adjusted : List Entry → Privileges → Privileges
adjusted es p = if is_reset es then reset p else apply_all applied es p

-- the named bits, of distinct entries
unfoldable pub named : List Entry → ℕ
named [] = 0
named (e ∷ es) = 2 ^ e.key + named es

-- a previous word at the named bits; for reset, the whole word
unfoldable pub previous : List Entry → ℕ → ℕ
previous es w = if is_reset es then w else bit_and w (named es)

-- what was present, then what was enabled
unfoldable pub report : List Entry → Privileges → List ℕ
report es p = encode_all (previous es p.present ∷ previous es p.enabled ∷ [])

unfoldable pub adjusted_token : List Entry → Token → Token
adjusted_token es t = next_modified (with_privileges (adjusted es t.privileges) t)

unfoldable pub adjust : State → ℕ → ℕ → List Entry → Decision
adjust σ s n es =
    with_handle σ s n adjust_privileges λ h t.
    need is_reset es || valid_entries (valid_entry t.privileges) es else bad_field then
    success (change_token h.token (adjusted_token es) σ) (report es t.privileges)
