-- A token with another default DACL, in its rows. Assumes nothing.
use Rattle.std.specs.Prelude.{ℕ, ◌≡◌, List}
use Rattle.rules.specs.Token.{Token, with_defaults}
use Rattle.rules.specs.Memory.{dacl_row}
use Rattle.token.specs.Row.{Becomes}

abbrev pub with_dacl : List ℕ → Token → Token
with_dacl bytes t = with_defaults (record { owner = t.defaults.owner; primary_group = t.defaults.primary_group; dacl = bytes }) t

-- whatever the DACL's row was
pub record DaclWritten (bytes ws ws' bs' : List ℕ) : Type 0 where
  pub row : Becomes (with_dacl bytes) ws ws'
  pub dacl : (t : Token) → bs' ≡ dacl_row (with_dacl bytes t)
