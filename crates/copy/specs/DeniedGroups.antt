-- What request 10's indexes do to the groups in a row. Assumes nothing.
use Rattle.std.specs.Prelude.{ℕ, ◌<◌, ◌≡◌, List, length}
use Rattle.rules.specs.Basic.{change_at, word32}
use Rattle.rules.specs.Growth.{Mem}
use Rattle.rules.specs.Group.{Group, denied}
use Rattle.rules.specs.Token.{Token, with_groups}
use Rattle.rules.specs.Memory.{token_words, token_row}
use Rattle.rules.specs.Restrict.{denied_all}

-- each group's SID fits its half of the word
abbrev pub Packed : Token → Type 0
Packed t = (g : Group) → Mem g t.groups → g.sid < word32

unfoldable pub deny_in : ℕ → Token → Token
deny_in i t = with_groups (change_at i denied t.groups) t

-- one index, in the row of a token that has `size` groups
pub record DeniedAt (size index : ℕ) (ws ws' : List ℕ) : Type 0 where
  pub long : length ws' ≡ token_words
  pub made : (t : Token) → length t.groups ≡ size → Packed t → ws ≡ token_row t → ws' ≡ token_row (deny_in index t)

-- each of the indexes
pub record GroupsDenied (size : ℕ) (is : List ℕ) (ws ws' : List ℕ) : Type 0 where
  pub long : length ws' ≡ token_words
  pub made : (t : Token) → length t.groups ≡ size → Packed t → ws ≡ token_row t → ws' ≡ token_row (with_groups (denied_all is t.groups) t)
