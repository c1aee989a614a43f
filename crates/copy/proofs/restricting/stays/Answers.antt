-- None is given, or one of those given is it. Assumes nothing.
use Rattle.std.proofs.Common.{ℕ, refl, rules, eqb}
use borrow.Author.Tests.{tests}
use Rattle.std.proofs.lemmas.Iterator.Search.{any_from_yields_List}
use Rattle.std.proofs.lemmas.Iterator.Consumers.{YieldsList-from_first}
use Rattle.copy.specs.Numbers.{numbers_left}
use Rattle.copy.proofs.RestrictingSids.{none_given, first_given, later_given}
use Rattle.copy.proofs.restricting.stays.Goals as goal

pub returns-in_default : goal.returns-in_default
returns-in_default c = none_given _ c.in_default.ensures.steps.0

pub returns-then-sid-first : goal.returns-then-sid-first
returns-then-sid-first c = first_given _ _ _ c.in-Some.ensures.steps c.if-sid-first.true

pub returns-else-sid-first : goal.returns-else-sid-first
returns-else-sid-first c = later_given _ _ _ c.in-Some.ensures.steps c.if-sid-first.false
    (any_from_yields_List (λ n. eqb c.args.sid n) _ _ _ c.any.ensures.ran (YieldsList-from_first (λ (x : ℕ). x) numbers_left _ refl) (λ x b q k. search (rules, tests)))
