-- What the code's handles stand for. Assumes nothing.
use Rattle.std.specs.Prelude.{ℕ, Bool}
use Rattle.handle.specs.declared.Handle.{Handle}
use Rattle.handle.specs.Meaning.{handle_of}
use Rattle.references.specs.Tests.{fields_test}

abbrev pub number_of : Handle → ℕ
number_of h = h.number

abbrev pub token_of : Handle → ℕ
token_of h = h.token

abbrev pub fields_of : Handle → Bool
fields_of h = fields_test (handle_of h)
