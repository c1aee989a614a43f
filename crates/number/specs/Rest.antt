-- What is left of a body after something was read from it: the bytes not yet read, or nothing, where it was not there. Assumes nothing.
use Rattle.std.specs.Prelude.{ℕ, List, Option, Some, None}
use Rattle.rules.specs.Number.{Read, got, bad}

unfoldable pub after : {A : Type 0} → Read A → Option (List ℕ)
after (got a bytes) = Some bytes
after bad = None
