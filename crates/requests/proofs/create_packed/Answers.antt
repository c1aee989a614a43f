-- Request 14. Assumes nothing.
use native.Mathlib.Omega.{arith}
use mathlib.Core.Path.{◌≡◌}
use Rattle.std.specs.Prelude.{None, Some, []}
use Rattle.std.proofs.lemmas.Grind.{common_steps}
use Rattle.rules.specs.Serve.{rule}
use Rattle.requests.proofs.LayoutLaws.{malformed, served}
use Rattle.requests.proofs.create_packed.Goals as goal

pub returns-in_err-fields-clause-carried : goal.returns-in_err-fields-clause-carried
returns-in_err-fields-clause-carried c =
    let none : c.create_packed.result ≡ None = grind (arith, common_steps) in
    let read = rw none at c.create_packed.ensures in
    malformed read.read.parsed (grind (arith, common_steps))

pub returns-clause-carried : goal.returns-clause-carried
unfolding rule
returns-clause-carried c =
    let some : c.create_packed.result ≡ Some c.in_ok-fields.fields = grind (arith, common_steps) in
    let read = rw some at c.create_packed.ensures in
    served _ read.read.parsed (c.create_packed-2.ensures.carried.carried _ [] read.read.there.there read.user.0)
