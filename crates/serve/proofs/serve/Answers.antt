-- The answer is written. Assumes nothing.
use Rattle.serve.proofs.BodyLaws.{answered}
use Rattle.serve.proofs.serve.Goals as goal

pub returns-clause-served : goal.returns-clause-served
returns-clause-served c = answered c.carry_out.ensures.carried c.ended-answer.ensures c.write-written.ensures
