-- Request 6. Assumes nothing.
use native.Mathlib.Omega.{arith}
use mathlib.Core.Path.{◌≡◌}
use Rattle.std.specs.Prelude.{None, Some, []}
use Rattle.std.proofs.lemmas.Grind.{common_steps}
use Rattle.rules.specs.Request as rules
use Rattle.rules.specs.Serve.{rule}
use Rattle.requests.proofs.LayoutLaws.{malformed, served}
use Rattle.requests.proofs.groups.Goals as goal

pub returns-in_err-fields-clause-carried : goal.returns-in_err-fields-clause-carried
returns-in_err-fields-clause-carried c =
    let none : c.entries.result ≡ None = grind (arith, common_steps) in
    let read = rw none at c.entries.ensures in
    malformed (read.parsed rules.groups) (grind (arith, common_steps))

pub returns-clause-carried : goal.returns-clause-carried
unfolding rule
returns-clause-carried c =
    let some : c.entries.result ≡ Some c.in_ok-fields.fields = grind (arith, common_steps) in
    let read = rw some at c.entries.ensures in
    served _ (read.parsed rules.groups) (c.adjust_groups.ensures.carried.carried _ [] read.there.there)
