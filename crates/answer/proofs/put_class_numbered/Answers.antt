-- A number that a class has, and one that none has. Assumes nothing.
use native.Mathlib.Omega.{arith}
use Rattle.answer.proofs.Classes.{past_classes, no_class}
use Rattle.answer.proofs.Answers.{known_wrote, none_wrote}
use Rattle.answer.proofs.put_class_numbered.Goals as goal

pub returns-then-class-ge-WORD_32 : goal.returns-then-class-ge-WORD_32
returns-then-class-ge-WORD_32 c = none_wrote _ _ c.args.class (past_classes _ _ c.args.class (omega arith)) c.put.ensures

pub returns-in-Ok : goal.returns-in-Ok
returns-in-Ok c = known_wrote _ _ c.args.class c.in-Ok.known c.in-Ok.ensures c.put_class_at.ensures

pub returns-in-Err : goal.returns-in-Err
returns-in-Err c = none_wrote _ _ c.args.class (no_class _ _ c.args.class c.in-Err.ensures.1) c.put-in-Err.ensures
