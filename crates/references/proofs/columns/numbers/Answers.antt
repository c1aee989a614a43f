-- references::columns::numbers meets its contract: its loop keeps what is not 0 of a column. Assumes nothing.
use borrow.Author.Rules.{rules}
use Rattle.rules.specs.Memory.{token_words}
use Rattle.references.proofs.Loops.{counted}
use Rattle.references.proofs.Lists.{given_none, given_more, given_done}
use Rattle.references.proofs.columns.numbers.Goals as goal

pub loop-row-init : goal.loop-row-init
loop-row-init g c = search (rules, given_none g.f token_words)

pub loop-row-preserved : goal.loop-row-preserved
loop-row-preserved g c =
    given_more g.f token_words c.args.tokens.now c.token_rows-row-items.ensures c.loop-row.invariant c.loop-row-test.true (c.requires.1.1 _ _ c.word-x.ensures) (counted c.word-x.result c.from-count.ensures)

pub returns : goal.returns
returns g c = given_done g.f token_words c.args.tokens.now c.token_rows-row-items.ensures c.loop-row.invariant c.loop-row-test.false
