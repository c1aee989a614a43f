-- What a whole call is refused for, and the number that it returns. Assumes nothing.
use Rattle.std.specs.Prelude.{ℕ, Result, Ok, Err}
use Rattle.rules.specs.Refusal.{no_station, short_buffer, invalid_memory}
use Rattle.start.specs.declared.refusal.CallRefusal.{CallRefusal}
use Rattle.start.specs.declared.refusal.CallRefusal.TheVariants.{NoStation, ShortBuffer, InvalidMemory}

abbrev pub number_of : CallRefusal → ℕ
number_of NoStation = no_station
number_of ShortBuffer = short_buffer
number_of InvalidMemory = invalid_memory

-- 0 where it is not refused
abbrev pub told : {A : Type 0} → Result A CallRefusal → ℕ
told (Ok a) = 0
told (Err e) = number_of e
