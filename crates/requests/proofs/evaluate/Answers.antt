-- Request 18. Assumes nothing.
use native.Mathlib.Omega.{arith}
use Rattle.std.proofs.lemmas.Grind.{common_steps}
use Rattle.requests.proofs.LayoutLaws.{handle_not_read, evaluate_served}
use Rattle.requests.proofs.evaluate.Goals as goal

pub returns-in_err-number-clause-carried : goal.returns-in_err-number-clause-carried
returns-in_err-number-clause-carried c = handle_not_read c.number.ensures.read (grind (arith, common_steps)) (grind (arith, common_steps))

pub returns-clause-carried : goal.returns-clause-carried
returns-clause-carried c = evaluate_served c.number.ensures.read (grind (arith, common_steps)) c.evaluate.ensures
