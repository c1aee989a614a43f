-- The slot's rows are chunks of the tables. Assumes nothing.
use native.Mathlib.Omega.{arith}
use Rattle.answer.specs.Class.{class_number}
use Rattle.answer.proofs.Answers.{class_room, slot_wrote}
use Rattle.answer.proofs.put_class_at.Goals as goal

pub put_class-requires : goal.put_class-requires
put_class-requires c = (
  omega arith,
  class_room c.args.tokens.now c.args.dacls.now c.as_chunks.result.0.now c.as_chunks-2.result.0.now c.args.slot _ _ c.as_chunks.ensures.front
      c.as_chunks-2.ensures.front (omega arith) (omega arith) (class_number c.args.class) c.args.out.now c.fits-tokens c.requires.2 (omega arith),
)

pub returns : goal.returns
returns c =
    slot_wrote c.args.tokens.now c.args.dacls.now c.as_chunks.result.0.now c.as_chunks-2.result.0.now c.args.slot _ _ c.as_chunks.ensures.front
    c.as_chunks-2.ensures.front (omega arith) (omega arith) (class_number c.args.class) c.put_class.ensures
