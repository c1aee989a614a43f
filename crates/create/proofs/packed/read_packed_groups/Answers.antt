-- The groups read so far are entered. Assumes nothing.
use borrow.Author.Rules.{rules}
use Rattle.create.proofs.PackedGroups.{rowed_at, none_loaded, too_many_packed, all_loaded, no_room_left, one_lost, one_judged, one_loaded, one_without_room}
use Rattle.create.proofs.packed.read_packed_groups.Goals as goal
use Rattle.create.proofs.packed.read_packed_groups.Goals.{in-Some-enter, in-None}

pub returns-then-count-gt-MAX_GROUPS : goal.returns-then-count-gt-MAX_GROUPS
returns-then-count-gt-MAX_GROUPS c = search (rules, too_many_packed)

pub loop-n-init : goal.loop-n-init
loop-n-init c = search (rules, none_loaded)

pub returns-in_default : goal.returns-in_default
returns-in_default c = one_lost _ _ _ _ _ (search rules) c.loop-n.invariant (search rules) c.in_default.ensures

pub returns-then-not-judged : goal.returns-then-not-judged
returns-then-not-judged c = one_judged _ _ _ _ _ (search rules) c.loop-n.invariant (search rules) c.in-Some.field-0 c.in-Some.ensures c.row_at-x.ensures c.judged.ensures (search rules)

pub enter-requires : goal.enter-requires
enter-requires c = (c.loop-n.invariant.sound, rowed_at c.row_at-x.ensures)

pub loop-n-preserved : goal.loop-n-preserved
loop-n-preserved c =
    elim c.match-enter.branch [
      | in-Some-enter w ↦
          rw (w.words-is, w.room-is)
          (one_loaded _ _ _ _ _ (search rules) c.loop-n.invariant (search rules) c.in-Some.field-0 c.in-Some.ensures c.row_at-x.ensures c.judged.ensures (search rules) w.in-Some-enter.ensures w.entered_word.ensures)
      | in-None w ↦
          rw (w.words-is, w.room-is)
          (one_without_room _ _ _ _ _ (search rules) c.loop-n.invariant (search rules) c.in-Some.field-0 c.in-Some.ensures c.row_at-x.ensures c.judged.ensures (search rules) w.in-None.ensures)
    ]

pub returns-then-room : goal.returns-then-room
returns-then-room c = search (rules, all_loaded)

pub returns-else-room : goal.returns-else-room
returns-else-room c = search (rules, no_room_left)
