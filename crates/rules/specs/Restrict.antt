-- Requests 10 and 15: restrict, with SIDs by their numbers or packed. Assumes nothing.
use Rattle.std.specs.Prelude.{ℕ, Bool, not, ◌&&◌, ◌||◌, List, [], ◌∷◌, map, length, eqb, leb, if◌then◌else◌}
use Rattle.rules.specs.Basic.{implies, all, filter, member, distinct, is_empty, change_at, is_below}
use Rattle.rules.specs.Bits.{within}
use Rattle.rules.specs.Mask as Mask
use Rattle.rules.specs.Refusal.{bad_field, table_full}
use Rattle.rules.specs.Privileges.{existing, remove}
use Rattle.rules.specs.Group.{Group, denied}
use Rattle.rules.specs.Token.{Token, Limits, max_restricting, is_restricted}
use Rattle.rules.specs.Sid.{Sid}
use Rattle.rules.specs.SidTable.{is_number, fits_table}
use Rattle.rules.specs.Given.{Given, number_in}
use Rattle.rules.specs.State.{State, entering}
use Rattle.rules.specs.Decision.{Decision, need◌else◌then◌, with_handle, can_issue, issued}

-- the copy's restricting SIDs: an unrestricted token gets those given; a restricted one keeps those of its own, in their order, that are also
-- given, and all of them where none is given
unfoldable pub restricting_to : List ℕ → List ℕ → List ℕ
restricting_to given own =
    if is_empty own then given else
    if is_empty given then own else
    filter (λ sid. member sid given) own

-- a restricted token's copy is restricted, and write-restricted only if the token is
unfoldable pub narrows : Token → ℕ → List ℕ → Bool
narrows t mark given =
    implies (is_restricted t) (not (is_empty (restricting_to given t.limits.restricting)) && implies (eqb mark 1) t.limits.write_restricted)

-- every SID's number is in the table, also one that the copy drops
unfoldable pub valid_restrict : List Sid → Token → ℕ → ℕ → List ℕ → List ℕ → Bool
valid_restrict sids t mark removed deny given =
    leb mark 1
    && within removed existing
    && all (is_below (length t.groups)) deny
    && distinct deny
    && narrows t mark given
    && all (is_number sids) given

unfoldable pub denied_all : List ℕ → List Group → List Group
denied_all [] gs = gs
denied_all (i ∷ is) gs = denied_all is (change_at i denied gs)

-- 1 sets both marks, 0 keeps them
unfoldable pub limited : ℕ → List ℕ → Limits → Limits
limited mark given x =
    record { restricting = restricting_to given x.restricting; write_restricted = eqb mark 1 || x.write_restricted; user_deny_only = eqb mark 1 || x.user_deny_only }

unfoldable pub restricted : ℕ → ℕ → ℕ → List ℕ → List ℕ → Token → Token
restricted n mark removed deny given t =
    record { number = n; modified = n; elevation = 1; identity = t.identity; privileges = remove removed t.privileges; groups = denied_all deny t.groups; limits = limited mark given t.limits; defaults = t.defaults; scope = t.scope }

-- by the SIDs' numbers
unfoldable pub restrict_numbered : State → ℕ → ℕ → ℕ → ℕ → List ℕ → List ℕ → Decision
restrict_numbered σ s n mark removed deny given =
    with_handle σ s n Mask.duplicate λ h t.
    need valid_restrict σ.sids t mark removed deny given else bad_field then
    need leb (length (restricting_to given t.limits.restricting)) max_restricting && can_issue σ && fits_table σ.sids else table_full then
    issued s h.mask (restricted σ.tokens.next mark removed deny given t) σ

-- where the SIDs given have entered
unfoldable pub restrict : State → ℕ → ℕ → ℕ → ℕ → List ℕ → List Given → Decision
restrict σ s n mark removed deny given =
    let τ = entering given σ in
    restrict_numbered τ s n mark removed deny (map (number_in τ.sids) given)
