-- Which edition the library is. Assumes nothing.
use Rattle.std.specs.Prelude.{ℕ, ◌+◌, ◌*◌}

-- major, minor and patch, a byte each
abbrev pub version : ℕ
version = 65536 * 0 + 256 * 2 + 0

-- the layout of the lent memory (docs/MEMORY.md has all of them)
abbrev pub layout : ℕ
layout = 6
