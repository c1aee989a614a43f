-- Request 2. Assumes nothing.
use native.Mathlib.Omega.{arith}
use Rattle.std.proofs.lemmas.Grind.{common_steps}
use Rattle.rules.specs.Serve.{rule}
use Rattle.requests.proofs.LayoutLaws.{number_served}
use Rattle.requests.proofs.close.Goals as goal

pub returns-clause-carried : goal.returns-clause-carried
unfolding rule
returns-clause-carried c = number_served _ c.number.ensures (grind (arith, common_steps)) c.close.ensures.carried
