-- The handle list as it is lent, of any length: what of it the broker keeps by value. Assumes nothing.
use Rattle.std.specs.Prelude.{List, ◌++◌, take, replicate}
use Rattle.rules.specs.State.{handle_slots}
use Rattle.handle.specs.Meaning.{none}
use Rattle.handle.specs.declared.Handle.{Handle}

-- the first 32 records; free slots where the list is shorter
abbrev pub loaded : List Handle → List Handle
loaded hs = take handle_slots (hs ++ replicate handle_slots none)
