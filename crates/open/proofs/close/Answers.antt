-- By whether the handle is there. Assumes nothing.
use native.Mathlib.Omega.{arith}
use Rattle.std.proofs.lemmas.Grind.{common_steps}
use Rattle.std.specs.Prelude.{Some, ◌≡◌}
use Rattle.open.proofs.OpenCloseEnding.{not_live, closed}
use Rattle.open.proofs.close.Goals as goal

pub returns-in_err-change-clause-carried : goal.returns-in_err-change-clause-carried
returns-in_err-change-clause-carried c = rw c.close.ensures.control (not_live c.close.ensures.closed (grind (arith, common_steps)) (grind (arith, common_steps)))

pub returns-clause-carried : goal.returns-clause-carried
returns-clause-carried c = let e : c.close.result ≡ Some c.in_ok-change.change = grind (arith, common_steps) in rw c.close.ensures.control (closed (rw e at c.close.ensures.closed))
