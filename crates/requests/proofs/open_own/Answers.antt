-- Request 1. Assumes nothing.
use native.Mathlib.Omega.{arith}
use Rattle.std.proofs.lemmas.Grind.{common_steps}
use Rattle.rules.specs.Serve.{rule}
use Rattle.requests.proofs.LayoutLaws.{number_served}
use Rattle.requests.proofs.open_own.Goals as goal

pub returns-clause-carried : goal.returns-clause-carried
unfolding rule
returns-clause-carried c = number_served _ c.number.ensures (grind (arith, common_steps)) c.open_own.ensures.carried
