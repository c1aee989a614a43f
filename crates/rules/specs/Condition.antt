-- Conditions on a token (document 02, W11: 'interlock rules'): what they mean, how deep they are, whether the privileges that they name exist.
-- Assumes nothing.
use Rattle.std.specs.Prelude.{ℕ, suc, max, Bool, true, false, not, ◌&&◌, ◌||◌, List, [], ◌∷◌, eqb}
use Rattle.rules.specs.Privileges as Privileges
use Rattle.rules.specs.Group as Group
use Rattle.rules.specs.Group.{Group}
use Rattle.rules.specs.Token.{Token}

mutual
  pub data Condition : Type 0 where
    all_of : Conditions → Condition
    any_of : Conditions → Condition
    negated : Condition → Condition
    privilege_enabled : ℕ → Condition
    group_enabled : ℕ → Condition

  pub data Conditions : Type 0 where
    none : Conditions
    more : Condition → Conditions → Conditions

-- ---- the meaning

-- some group of that SID is enabled
unfoldable pub has_group : ℕ → List Group → Bool
has_group sid [] = false
has_group sid (g ∷ gs) = (eqb g.sid sid && Group.is_enabled g) || has_group sid gs

unfoldable mutual
  pub holds : Token → Condition → Bool
  holds t (all_of cs) = all_hold t cs
  holds t (any_of cs) = any_holds t cs
  holds t (negated c) = not (holds t c)
  holds t (privilege_enabled n) = Privileges.is_enabled n t.privileges
  holds t (group_enabled sid) = has_group sid t.groups

  -- of none: true
  pub all_hold : Token → Conditions → Bool
  all_hold t none = true
  all_hold t (more c cs) = holds t c && all_hold t cs

  -- of none: false
  pub any_holds : Token → Conditions → Bool
  any_holds t none = false
  any_holds t (more c cs) = holds t c || any_holds t cs

-- ---- every privilege that is named exists, wherever it stands

unfoldable mutual
  pub known : Condition → Bool
  known (all_of cs) = all_known cs
  known (any_of cs) = all_known cs
  known (negated c) = known c
  known (privilege_enabled n) = Privileges.exists n
  known (group_enabled sid) = true

  pub all_known : Conditions → Bool
  all_known none = true
  all_known (more c cs) = known c && all_known cs

-- ---- the depth: one deeper than the deepest inside; an empty list is one deep

unfoldable mutual
  pub depth : Condition → ℕ
  depth (all_of cs) = suc (deepest cs)
  depth (any_of cs) = suc (deepest cs)
  depth (negated c) = suc (depth c)
  depth (privilege_enabled n) = 1
  depth (group_enabled sid) = 1

  pub deepest : Conditions → ℕ
  deepest none = 0
  deepest (more c cs) = max (depth c) (deepest cs)

abbrev pub max_depth : ℕ
max_depth = 8
