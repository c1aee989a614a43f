-- Each turn but the last takes a chunk or leaves more bytes held: that is what falls. Assumes nothing.
use Prim.Native.Nat.{◌+◌, ◌-◌, ◌*◌, ◌≤◌}
use mathlib.Core.Bool.{true}
use Rattle.session.specs.Program.{budget}
use Rattle.session.specs.Turns.{SameMemory, held}
use Rattle.obriska.specs.Serving.{buffer_bytes, Ready, Within, Runs}
use Rattle.obriska.proofs.run.Given as goal

abbrev pub invariant-loop-chunks : goal.invariant-loop-chunks
invariant-loop-chunks g l =
    SameMemory l.initial.memory l.memory × (l.chunks ≤ budget) × Within l.span l.buffer
    × Runs l.initial.buffer (held l.initial.memory) l.chunks true l.buffer l.span (held l.memory)
    × Ready l.buffer l.answer (held l.memory)

abbrev pub decreases-loop-chunks : goal.decreases-loop-chunks
decreases-loop-chunks g l = (budget - l.chunks) * (buffer_bytes + 1) + (buffer_bytes - (l.span.end - l.span.from))
