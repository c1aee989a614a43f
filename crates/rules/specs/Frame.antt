-- Frames: a body length of 1 to 2,048, then the body. Assumes nothing.
use Rattle.std.specs.Prelude.{ℕ, ◌+◌, ◌*◌, ◌-◌, ◌||◌, List, [], ◌∷◌, ◌++◌, length, eqb, leb, ltb, if◌then◌else◌}
use Rattle.rules.specs.Number.{encode}

abbrev pub max_body : ℕ
max_body = 2048

-- no answer is longer
abbrev pub max_answer : ℕ
max_answer = 1024

unfoldable pub frame : List ℕ → List ℕ
frame body = encode (length body) ++ body

-- ---- what a frame's first bytes say of its body's length: nothing yet, that no length is valid, or the length, before the bytes after it

pub data Length : Type 0 where
  unread : Length
  invalid : Length
  size : ℕ → List ℕ → Length

-- after a first byte a with its top bit set
unfoldable pub second_of : ℕ → List ℕ → Length
second_of a [] = unread
second_of a (b ∷ bytes) =
    if eqb b 0 || leb 128 b || ltb max_body (a - 128 + 128 * b) then invalid else size (a - 128 + 128 * b) bytes

unfoldable pub length_of : List ℕ → Length
length_of [] = unread
length_of (a ∷ bytes) =
    if eqb a 0 then invalid else
    if ltb a 128 then size a bytes else
    second_of a bytes

-- ---- what a frame's first bytes come to: a part of it, a break, or the whole body

pub data Framed : Type 0 where
  part : Framed
  broken : Framed
  whole : List ℕ → Framed

unfoldable pub framed_by : Length → Framed
framed_by unread = part
framed_by invalid = broken
framed_by (size n body) = if ltb (length body) n then part else whole body

unfoldable pub framed : List ℕ → Framed
framed bytes = framed_by (length_of bytes)
