-- `is_just` meets its contract. Assumes nothing.
use borrow.Author.Rules.{rules}
use Rattle.body.proofs.Pairs.{not_one, just_read}
use Rattle.body.proofs.entry.is_just.Goals as goal

pub returns-then-count-eq1 : goal.returns-then-count-eq1
returns-then-count-eq1 c = just_read c.args.key c.args.value _ _ _ c.if-count-eq1.true _ c.read.ensures c.is_some_and.ensures (λ e q. search rules)

pub returns-else-count-eq1 : goal.returns-else-count-eq1
returns-else-count-eq1 c = search (rules, not_one)
