-- `write_all` meets its contract. Assumes nothing.
use mathlib.Core.Path.{refl}
use borrow.Author.Rules.{rules}
use Rattle.rules.specs.Number.{encode_all}
use Rattle.number.specs.Over.{over}
use Rattle.number.proofs.Fields.{room_start, next_place, filled}
use Rattle.number.proofs.frame.write_all.Goals as goal

pub loop-field-init : goal.loop-field-init
unfolding encode_all over
loop-field-init c = (refl, refl)

pub slice_bounds-write-count : goal.slice_bounds-write-count
unfolding encode_all over
slice_bounds-write-count c = search (rules, room_start)

pub slice_bounds-write-start : goal.slice_bounds-write-start
unfolding encode_all over
slice_bounds-write-start c = search (rules, room_start)

pub loop-field-preserved : goal.loop-field-preserved
unfolding encode_all over
loop-field-preserved c = search (rules, next_place, filled)
