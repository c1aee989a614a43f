-- token_rows::tokens_valid meets its contract: its loop tests each row. Assumes nothing.
use Rattle.std.proofs.Common.{rules}
use Rattle.token_rows.proofs.Pairs.{pair_tested, pairs_tested}
use Rattle.token_rows.proofs.tokens_valid.Goals as goal

pub loop-words-preserved : goal.loop-words-preserved
loop-words-preserved c = pair_tested _ _ _ _ _ _ _ _ _ c.next.new.self (search rules) (search rules) c.loop-words.yielded_by c.loop-words.invariant c.next.ensures.steps (c.in-Some.words, c.in-Some.dacl) c.in-Some.is c.token_valid-ok.ensures

pub returns : goal.returns
returns c = pairs_tested _ _ _ _ _ _ _ _ _ c.next.new.self (search rules) (search rules) c.loop-words.yielded_by c.loop-words.invariant c.next.ensures.steps c.in-None.is
