-- Each number in turn. Assumes nothing.
use borrow.Author.Rules.{rules}
use Rattle.rules.specs.Request.{layouts}
use Rattle.serve.proofs.BodyLaws.{malformed, by_number_lem, by_none}
use Rattle.serve.proofs.carry_out.Goals as goal

pub returns-in_default-clause-carried : goal.returns-in_default-clause-carried
returns-in_default-clause-carried c = malformed c.in_default.ensures

pub returns-in-1-clause-carried : goal.returns-in-1-clause-carried
unfolding layouts
returns-in-1-clause-carried c = by_number_lem c.in-Some.ensures 1 c.in-1.is c.open_own.ensures.carried

pub returns-in-2-clause-carried : goal.returns-in-2-clause-carried
unfolding layouts
returns-in-2-clause-carried c = by_number_lem c.in-Some.ensures 2 c.in-2.is (search rules)

pub returns-in-3-clause-carried : goal.returns-in-3-clause-carried
unfolding layouts
returns-in-3-clause-carried c = by_number_lem c.in-Some.ensures 3 c.in-3.is c.create.ensures.carried

pub returns-in-4-clause-carried : goal.returns-in-4-clause-carried
unfolding layouts
returns-in-4-clause-carried c = by_number_lem c.in-Some.ensures 4 c.in-4.is c.query.ensures.carried

pub returns-in-5-clause-carried : goal.returns-in-5-clause-carried
unfolding layouts
returns-in-5-clause-carried c = by_number_lem c.in-Some.ensures 5 c.in-5.is c.privileges.ensures.carried

pub returns-in-6-clause-carried : goal.returns-in-6-clause-carried
unfolding layouts
returns-in-6-clause-carried c = by_number_lem c.in-Some.ensures 6 c.in-6.is c.groups.ensures.carried

pub returns-in-7-clause-carried : goal.returns-in-7-clause-carried
unfolding layouts
returns-in-7-clause-carried c = by_number_lem c.in-Some.ensures 7 c.in-7.is c.scope.ensures.carried

pub returns-in-8-clause-carried : goal.returns-in-8-clause-carried
unfolding layouts
returns-in-8-clause-carried c = by_number_lem c.in-Some.ensures 8 c.in-8.is c.defaults.ensures.carried

pub returns-in-9-clause-carried : goal.returns-in-9-clause-carried
unfolding layouts
returns-in-9-clause-carried c = by_number_lem c.in-Some.ensures 9 c.in-9.is c.duplicate.ensures.carried

pub returns-in-10-clause-carried : goal.returns-in-10-clause-carried
unfolding layouts
returns-in-10-clause-carried c = by_number_lem c.in-Some.ensures 10 c.in-10.is c.restrict.ensures.carried

pub returns-in-11-clause-carried : goal.returns-in-11-clause-carried
unfolding layouts
returns-in-11-clause-carried c = by_number_lem c.in-Some.ensures 11 c.in-11.is (search rules)

pub returns-in-12-clause-carried : goal.returns-in-12-clause-carried
unfolding layouts
returns-in-12-clause-carried c = by_number_lem c.in-Some.ensures 12 c.in-12.is c.impersonate.ensures.carried

pub returns-in-13-clause-carried : goal.returns-in-13-clause-carried
unfolding layouts
returns-in-13-clause-carried c = by_number_lem c.in-Some.ensures 13 c.in-13.is c.revert.ensures.carried

pub returns-in-14-clause-carried : goal.returns-in-14-clause-carried
unfolding layouts
returns-in-14-clause-carried c = by_number_lem c.in-Some.ensures 14 c.in-14.is c.create_packed.ensures.carried

pub returns-in-15-clause-carried : goal.returns-in-15-clause-carried
unfolding layouts
returns-in-15-clause-carried c = by_number_lem c.in-Some.ensures 15 c.in-15.is c.restrict_packed.ensures.carried

pub returns-in-16-clause-carried : goal.returns-in-16-clause-carried
unfolding layouts
returns-in-16-clause-carried c = by_number_lem c.in-Some.ensures 16 c.in-16.is c.link.ensures.carried

pub returns-in-17-clause-carried : goal.returns-in-17-clause-carried
unfolding layouts
returns-in-17-clause-carried c = by_number_lem c.in-Some.ensures 17 c.in-17.is c.linked.ensures.carried

pub returns-in-18-clause-carried : goal.returns-in-18-clause-carried
unfolding layouts
returns-in-18-clause-carried c = by_number_lem c.in-Some.ensures 18 c.in-18.is c.evaluate.ensures.carried

pub returns-in_default-number-clause-carried : goal.returns-in_default-number-clause-carried
returns-in_default-number-clause-carried c = by_none c.in-Some.ensures (search rules)
