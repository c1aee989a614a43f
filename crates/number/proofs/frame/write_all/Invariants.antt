-- `write_all` meets its contract. The loop's invariant: the fields passed are written over the buffer, up to the place. Assumes nothing.
use mathlib.Core.Path.{◌≡◌}
use lib.ListN.{length, take}
use Rattle.rules.specs.Number.{encode_all}
use Rattle.number.specs.Over.{over}
use Rattle.number.proofs.frame.write_all.Given as goal

abbrev pub invariant-loop-field : goal.invariant-loop-field
invariant-loop-field l = (l.at ≡ length (encode_all (take l.field-index l.fields))) × (l.out ≡ over (encode_all (take l.field-index l.fields)) l.initial.out)
