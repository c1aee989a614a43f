-- What the code says of the input, in the terms of the program. Assumes nothing.
use Rattle.std.specs.Prelude.{ℕ, ◌+◌, ◌-◌, ◌≤◌, ◌<◌, ◌≡◌, List, ◌++◌, length, take, drop}
use Rattle.session.specs.Program as program
use Rattle.session.specs.Program.{chunk, more, stop, max_chunk, number_bytes}
use Rattle.session.specs.declared.input.Next.{Next}
use Rattle.session.specs.declared.input.Next.TheVariants as next

abbrev pub next_of : List ℕ → Next → program.Next
next_of s (next.Chunk station at size) = chunk station (take size (drop at s)) (drop (at + size) s)
next_of s next.More = more
next_of s next.Stop = stop

-- fewer bytes than this can wait for more: a station, a length and the longest chunk
abbrev pub max_waiting : ℕ
max_waiting = number_bytes + number_bytes + max_chunk

-- a chunk lies within the bytes, after a place; fewer than `few` bytes from the place on wait for more
abbrev pub Bounds : ℕ → ℕ → ℕ → Next → Type 0
Bounds size from few (next.Chunk station at n) = (from ≤ at) × (at + n ≤ size) × (n ≤ max_chunk)
Bounds size from few next.More = size < from + few
Bounds size from few next.Stop = Unit {0}

-- of the bytes from a place on r says `what`
pub record Says (s : List ℕ) (from few : ℕ) (what : program.Next) (r : Next) : Type 0 where
  pub means : next_of s r ≡ what
  pub bounds : Bounds (length s) from few r

-- the bytes from a place up to an end now stand at the front, r bytes; those after them stay
pub record Kept (from end : ℕ) (before after : List ℕ) (r : ℕ) : Type 0 where
  pub count : r ≡ end - from
  pub bytes : after ≡ take r (drop from before) ++ drop r before
