-- What request 9 judges and makes. Assumes nothing.
use Rattle.std.specs.Prelude.{ℕ, ◌<◌, ◌≡◌, Bool, true}
use Rattle.rules.specs.Token as rules
use Rattle.rules.specs.Handle as rules-handle
use Rattle.rules.specs.Duplicate as duplicates
use Rattle.rules.specs.Duplicate.{valid_duplicate}
use Rattle.handle.specs.Words.{word16}
use Rattle.token.specs.Meaning.{identity_of}
use Rattle.token.specs.declared.Identity.{Identity}

-- by the handle's mask and who the token is
pub record DuplicateJudged (held : ℕ) (i : Identity) (type level mask : ℕ) (r : Bool) : Type 0 where
  -- what a handle's width asks
  pub narrow : r ≡ true → mask < word16
  pub judged : (h : rules-handle.Handle) (t : rules.Token) → held ≡ h.mask → identity_of i ≡ t.identity → r ≡ valid_duplicate h t type level mask

-- the copies, by the next number last but the token
unfoldable pub copied_as : ℕ → ℕ → ℕ → rules.Token → rules.Token
copied_as type level n t = duplicates.copied n type level t

unfoldable pub duplicated_as : ℕ → ℕ → ℕ → rules.Token → rules.Token
duplicated_as type level n t = duplicates.duplicated n type level t
