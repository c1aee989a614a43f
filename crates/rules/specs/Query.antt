-- Request 4: query. Assumes nothing.
use Rattle.std.specs.Prelude.{ℕ, ◌&&◌, List, [], ◌∷◌, ◌++◌, length, get_or, leb}
use Rattle.rules.specs.Number.{encode, encode_all}
use Rattle.rules.specs.Mask as Mask
use Rattle.rules.specs.Refusal.{bad_field, capacity_below}
use Rattle.rules.specs.Privileges.{Privileges}
use Rattle.rules.specs.Group.{Group}
use Rattle.rules.specs.Token.{Token, sid_at}
use Rattle.rules.specs.State.{State}
use Rattle.rules.specs.Decision.{Decision, need◌else◌then◌, success, with_handle}

unfoldable pub pairs : List Group → List ℕ
pairs [] = []
pairs (g ∷ gs) = g.sid ∷ g.attributes ∷ pairs gs

unfoldable pub words : Privileges → List ℕ
words p = p.present ∷ p.enabled ∷ p.by_default ∷ p.used ∷ []

-- the answer's bytes after the status, for class 1 on
unfoldable pub classes : Token → List (List ℕ)
classes t =
    encode t.identity.user
    ∷ encode_all (length t.groups ∷ pairs t.groups)
    ∷ encode_all (words t.privileges)
    ∷ encode (sid_at t t.defaults.owner)
    ∷ encode (sid_at t t.defaults.primary_group)
    ∷ (encode (length t.defaults.dacl) ++ t.defaults.dacl)
    ∷ encode t.identity.type
    ∷ encode t.identity.level
    ∷ encode_all (t.number ∷ t.identity.session ∷ t.modified ∷ t.identity.type ∷ t.identity.root ∷ [])
    ∷ encode_all (length t.limits.restricting ∷ t.limits.restricting)
    ∷ encode t.scope
    ∷ encode t.elevation
    ∷ encode t.identity.integrity
    ∷ []

unfoldable pub class_bytes : Token → ℕ → List ℕ
class_bytes t class = get_or ([] ∷ classes t) class []

unfoldable pub query : State → ℕ → ℕ → ℕ → ℕ → Decision
query σ s n class capacity =
    with_handle σ s n Mask.query λ h t.
    need leb 1 class && leb class 13 else bad_field then
    need leb (length (class_bytes t class)) capacity else capacity_below (length (class_bytes t class)) then
    success σ (class_bytes t class)
