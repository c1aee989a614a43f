-- Request 13. Assumes nothing.
use mathlib.Core.Path.{refl}
use Rattle.rules.specs.Request as rules
use Rattle.rules.specs.Serve.{rule}
use Rattle.requests.proofs.LayoutLaws.{malformed, served}
use Rattle.requests.proofs.revert.Goals as goal

pub returns-then-not-nothing-clause-carried : goal.returns-then-not-nothing-clause-carried
returns-then-not-nothing-clause-carried c = malformed (c.if-not-nothing.ensures.parsed rules.revert) refl

pub returns-clause-carried : goal.returns-clause-carried
unfolding rule
returns-clause-carried c = served rules.revert (c.if-not-nothing.ensures.parsed rules.revert) c.revert.ensures.carried
