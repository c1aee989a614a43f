-- A changed handle in the lent list. Assumes nothing.
use Rattle.std.specs.Prelude.{◌≡◌, Option, MatchOption, List, eqb, set, if◌then◌else◌}
use Rattle.handle.specs.Meaning.{none}
use Rattle.handle.specs.declared.Handle.{Handle}
use Rattle.state.specs.declared.handles.Change.{Change}

-- one of number 0 frees its slot
abbrev pub Noted : Option Change → List Handle → List Handle → Type 0
Noted o hs hs' = MatchOption o (hs' ≡ hs) (λ c. hs' ≡ (if eqb c.handle.number 0 then set hs c.slot none else set hs c.slot c.handle))
