-- The row of a new token, before and after it gets its head. Assumes nothing.
use Rattle.std.specs.Prelude.{◌≡◌, ℕ, List, [], ◌++◌, map, length, replicate}
use Rattle.table.specs.Lists.{pad}
use Rattle.rules.specs.Privileges.{Privileges}
use Rattle.rules.specs.Group.{Group}
use Rattle.rules.specs.Token.{Identity, max_groups, max_restricting, new_token}
use Rattle.rules.specs.Memory.{head_words, token_words, pack, token_row}

-- a row that has groups and no head
unfoldable pub headless : List Group → List ℕ
headless gs = replicate head_words 0 ++ (pad max_groups (map pack gs) ++ pad max_restricting [])

-- such a row becomes that of a new token
pub record Headed (n : ℕ) (i : Identity) (p : Privileges) (count : ℕ) (ws ws' : List ℕ) : Type 0 where
  pub row : (gs : List Group) → ws ≡ headless gs → length gs ≡ count → ws' ≡ token_row (new_token n i p gs)
  pub long : length ws ≡ token_words → length ws' ≡ token_words
