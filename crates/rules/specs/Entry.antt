-- The entries of requests 5 and 6: a privilege or a group's index, and what is asked of it. Assumes nothing.
use Rattle.std.specs.Prelude.{ℕ, Bool, false, not, ◌&&◌, List, [], ◌∷◌, map, eqb}
use Rattle.rules.specs.Basic.{all, distinct, is_empty}

pub record Entry : Type 0 where
  pub key : ℕ
  pub value : ℕ

unfoldable pub key_of : Entry → ℕ
key_of e = e.key

-- just this one entry: a reset
unfoldable pub is_only : ℕ → ℕ → List Entry → Bool
is_only key value [] = false
is_only key value (e ∷ []) = eqb e.key key && eqb e.value value
is_only key value (e ∷ f ∷ es) = false

-- some entries, all good, and none twice
unfoldable pub valid_entries : (Entry → Bool) → List Entry → Bool
valid_entries good es = not (is_empty es) && all good es && distinct (map key_of es)

-- each entry in turn
unfoldable pub apply_all : {A : Type 0} → (Entry → A → A) → List Entry → A → A
apply_all apply [] a = a
apply_all apply (e ∷ es) a = apply_all apply es (apply e a)
