-- Request 7. Assumes nothing.
use native.Mathlib.Omega.{arith}
use mathlib.Core.Path.{◌≡◌}
use Rattle.std.specs.Prelude.{None, Some}
use Rattle.std.proofs.lemmas.Grind.{common_steps}
use Rattle.rules.specs.Serve.{rule}
use Rattle.requests.proofs.LayoutLaws.{malformed, served}
use Rattle.requests.proofs.scope.Goals as goal

pub returns-in_err-fields-clause-carried : goal.returns-in_err-fields-clause-carried
returns-in_err-fields-clause-carried c =
    let none : c.scope.result ≡ None = grind (arith, common_steps) in
    let read = rw none at c.scope.ensures in
    malformed read (grind (arith, common_steps))

pub returns-clause-carried : goal.returns-clause-carried
unfolding rule
returns-clause-carried c =
    let some : c.scope.result ≡ Some c.in_ok-fields.fields = grind (arith, common_steps) in
    let read = rw some at c.scope.ensures in
    served _ read c.scope-2.ensures.carried
