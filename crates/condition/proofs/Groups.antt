-- Some group of that SID is enabled, by the groups' words. Assumes nothing.
use Rattle.std.proofs.Common.{ℕ, ◌≡◌, sym, ◌∙◌, Bool, false, ◌||◌, List, [], ◌∷◌, map}
use mathlib.Core.Bool.{or-false, or_assoc}
use Rattle.std.specs.List.{fold}
use Rattle.rules.specs.Memory.{unpack}
use Rattle.rules.specs.Condition.{has_group}
use Rattle.condition.specs.Told.{is_of}

or_some : (sid : ℕ) (found : Bool) (ws : List ℕ) → fold (λ b w. b || is_of sid w) found ws ≡ (found || has_group sid (map unpack ws))
unfolding has_group is_of
or_some sid found [] = sym (or-false found)
or_some sid found (w ∷ ws) = or_some sid (found || is_of sid w) ws ∙ or_assoc found (is_of sid w) (has_group sid (map unpack ws))

-- the words' groups were gathered
pub some_word : (sid : ℕ) {r : Bool} (ws : List ℕ) → r ≡ fold (λ b w. b || is_of sid w) false ws → r ≡ has_group sid (map unpack ws)
some_word sid ws e = e ∙ or_some sid false ws
