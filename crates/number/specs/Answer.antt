-- An answer: a frame whose body is numbers and then plain bytes. Assumes nothing.
use Rattle.std.specs.Prelude.{ℕ, ◌+◌, ◌*◌, List, ◌++◌}
use Rattle.rules.specs.Number.{encode_all}
use Rattle.rules.specs.Frame.{frame}
use Rattle.rules.specs.Token.{max_groups, max_dacl}

-- the most that the writer takes: the status, a count and the pairs of all groups; and a whole DACL
abbrev pub max_fields : ℕ
max_fields = 2 + 2 * max_groups

abbrev pub max_plain : ℕ
max_plain = max_dacl

abbrev pub body : List ℕ → List ℕ → List ℕ
body fields plain = encode_all fields ++ plain

abbrev pub answered : List ℕ → List ℕ → List ℕ
answered fields plain = frame (body fields plain)
