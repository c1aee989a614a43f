-- Request 10. Assumes nothing.
use native.Mathlib.Omega.{arith}
use mathlib.Core.Path.{◌≡◌}
use Rattle.std.specs.Prelude.{None, Some, []}
use Rattle.std.proofs.lemmas.Grind.{common_steps}
use Rattle.rules.specs.Serve.{rule}
use Rattle.requests.proofs.LayoutLaws.{malformed, served}
use Rattle.requests.proofs.restrict.Goals as goal

pub returns-in_err-fields-clause-carried : goal.returns-in_err-fields-clause-carried
returns-in_err-fields-clause-carried c =
    let none : c.restrict.result ≡ None = grind (arith, common_steps) in
    let read = rw none at c.restrict.ensures in
    malformed read.parsed (grind (arith, common_steps))

pub returns-clause-carried : goal.returns-clause-carried
unfolding rule
returns-clause-carried c =
    let some : c.restrict.result ≡ Some c.in_ok-fields.fields = grind (arith, common_steps) in
    let read = rw some at c.restrict.ensures in
    served _ read.parsed (c.restrict-2.ensures.carried.carried _ _ (record { after = _; denied = read.deny.there; later = []; sids = read.sids.there }))
