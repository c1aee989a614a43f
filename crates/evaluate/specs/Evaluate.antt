-- What request 18 asks from a place of a body on, and of what. Assumes nothing.
use Rattle.std.specs.Prelude.{ℕ, min, List, get_or, take, drop}
use Rattle.rules.specs.Number.{Read}
use Rattle.rules.specs.Token.{Token, max_groups}
use Rattle.rules.specs.Condition.{max_depth}
use Rattle.rules.specs.Request as requests
use Rattle.rules.specs.Request.{Request, follow, end, condition}
use Rattle.rules.specs.Head as Head
use Rattle.rules.specs.Memory.{head_words}
use Rattle.condition.specs.Told.{asked_of}

-- the rest of the layout, behind handle n
unfoldable pub asks : ℕ → List ℕ → Read Request
asks n bytes = follow (condition max_depth bytes) (λ c. end (requests.evaluate n c))

-- what a condition is asked of in a row: the enabled privileges and the groups
abbrev pub asked_in : List ℕ → Token
asked_in ws = asked_of (get_or ws Head.enabled 0) (take (min (get_or ws Head.group_count 0) max_groups) (drop head_words ws))
