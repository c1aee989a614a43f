-- What the crate's answers say in the terms of the rules, and the bounds of their places. Assumes nothing.
use Rattle.std.specs.Prelude.{ℕ, ◌+◌, ◌≤◌, ◌<◌, ◌≡◌, List, ◌++◌, length, take, drop}
use Rattle.std.proofs.Math.Seq.{paste}
use Rattle.rules.specs.Frame as Frame
use Rattle.rules.specs.Memory.{pending_bytes}
use Rattle.stream.specs.Join.{Stop, stopped, Sure}
use Rattle.stream.specs.declared.Framed.{Framed}
use Rattle.stream.specs.declared.Framed.TheVariants as framed
use Rattle.stream.specs.declared.Stopped.{Stopped}
use Rattle.stream.specs.declared.frame.Length.{Length}
use Rattle.stream.specs.declared.frame.Length.TheVariants as len

-- ---- the first count bytes of a row: what they say of the body's length, and what they come to

abbrev pub length_from : List ℕ → ℕ → Length → Frame.Length
length_from row count len.Unread = Frame.unread
length_from row count len.Invalid = Frame.invalid
length_from row count (len.Known start size) = Frame.size size (drop start (take count row))

abbrev pub Begins : ℕ → Length → Type 0
Begins count len.Unread = Unit {0}
Begins count len.Invalid = Unit {0}
Begins count (len.Known start size) = (1 ≤ start) × (start ≤ count)

pub record Announced (row : List ℕ) (count : ℕ) (r : Length) : Type 0 where
  pub means : length_from row count r ≡ Frame.length_of (take count row)
  pub bounds : Begins count r

abbrev pub framed_of : List ℕ → ℕ → Framed → Frame.Framed
framed_of row count framed.Part = Frame.part
framed_of row count framed.Broken = Frame.broken
framed_of row count (framed.Whole start) = Frame.whole (drop start (take count row))

abbrev pub Starts : ℕ → Framed → Type 0
Starts count framed.Part = Unit {0}
Starts count framed.Broken = Unit {0}
Starts count (framed.Whole start) = (1 ≤ start) × (start ≤ count)

pub record FramedAs (row : List ℕ) (count : ℕ) (r : Framed) : Type 0 where
  pub means : framed_of row count r ≡ Frame.framed (take count row)
  pub bounds : Starts count r

-- ---- a chunk after the first count bytes of a row

abbrev pub stop_of : List ℕ → Stopped → Stop
stop_of row r = record { used = r.used; joined = take r.count row; what = framed_of row r.count r.what }

-- its first k bytes, which leave a part of a frame for sure, behind the pending ones
pub record JoinedAtOnce (chunk before : List ℕ) (count : ℕ) (after : List ℕ) (k : ℕ) : Type 0 where
  pub sure : Sure (take count before) k
  pub row : after ≡ paste before count chunk k
  pub used : k < length chunk
  pub fits : count + k < pending_bytes

-- the row before and after it: the bytes behind those that are pending stay
pub record Joined (chunk before : List ℕ) (count : ℕ) (after : List ℕ) (r : Stopped) : Type 0 where
  pub means : stop_of after r ≡ stopped (take count before) chunk
  pub row : after ≡ (stopped (take count before) chunk).joined ++ drop r.count before
  pub used : r.used ≤ length chunk
  pub fits : r.count ≤ pending_bytes
  pub bounds : Starts r.count r.what
