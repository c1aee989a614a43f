-- sid::find::rank meets its contract: the rank stays within the range, which is halved. Assumes nothing.
use borrow.Author.Rules.{rules}
use Rattle.std.proofs.Common.{ap, ◌∙◌, List, ℕ}
use Rattle.rules.specs.SidRows.{less}
use Rattle.sid.proofs.Finding.{halving_none, halving_behind, halving_before, middle_below}
use Rattle.sid.proofs.find.rank.Goals as goal

pub loop-n-init : goal.loop-n-init
loop-n-init c = search (rules, halving_none)

pub row-requires : goal.row-requires
row-requires c = (search rules, search (rules, middle_below))

pub loop-n-preserved-then-less : goal.loop-n-preserved-then-less
loop-n-preserved-then-less c = halving_behind c.loop-n.invariant c.loop-n-test.true (c.less.ensures ∙ ap (λ (l : List ℕ). less l c.args.x.now) c.row.ensures) c.if-less.true

pub loop-n-preserved : goal.loop-n-preserved
loop-n-preserved c = halving_before c.loop-n.invariant c.loop-n-test.true (c.less.ensures ∙ ap (λ (l : List ℕ). less l c.args.x.now) c.row.ensures) c.if-less.false
