-- token_rows::groups_valid meets its contract: its loop gathers the words and what they carry to. Assumes nothing.
use Rattle.std.proofs.Common.{refl, rules}
use Rattle.token_rows.specs.Tests.{carried_to}
use Rattle.lists.proofs.Loops.{gathered_more, gathered_given, gathered_done}
use Rattle.token_rows.proofs.Groups.{lacks, attributes_test, or_attributes, or_lacks, half_test, both_test, groups_tested}
use Rattle.token_rows.proofs.groups_valid.Goals as goal

pub loop-w-preserved : goal.loop-w-preserved
loop-w-preserved c = search (rules, gathered_more attributes_test attributes_test or_attributes (λ w. w) (λ w. refl), gathered_given (lacks 63) half_test (or_lacks 63) carried_to (λ w. refl), gathered_given (lacks 37) both_test (or_lacks 37) carried_to (λ w. refl))

pub returns : goal.returns
returns c = search (rules, groups_tested, gathered_done attributes_test attributes_test, gathered_done (lacks 63) half_test, gathered_done (lacks 37) both_test)
