-- sid::valid::table_valid meets its contract: by its size, then by the test, which is exact. Assumes nothing.
use borrow.Author.Rules.{rules}
use mathlib.Core.Path.{ap, ◌∙◌}
use Rattle.sid.specs.Tests.{words_test}
use Rattle.sid.proofs.Exact.{size_wrong, tested_valid}
use Rattle.sid.proofs.valid.table_valid.Goals as goal

pub returns-in_default : goal.returns-in_default
returns-in_default c = search (rules, size_wrong, c.in_default.ensures.cases)

pub returns : goal.returns
returns c = tested_valid c.args.sids.now (λ i. (c.type_inv.sids i).fits) (c.passes.ensures ∙ ap words_test c.in-Some.ensures.cases.same)
