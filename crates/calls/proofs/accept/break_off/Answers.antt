-- The row is cleared, the words are set, and the refusal is written as every answer is. Assumes nothing.
use Rattle.calls.proofs.Accepting.{broken_off_lem}
use Rattle.calls.proofs.accept.break_off.Goals as goal

pub returns-clause-broken : goal.returns-clause-broken
returns-clause-broken c = broken_off_lem c.clear.ensures c.set_stream.ensures c.answer_break.ensures
