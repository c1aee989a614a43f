-- By the tests of 11, 12 and 13. At the last, the chunk's bytes are known to be bytes since the start. Assumes nothing.
use Rattle.std.proofs.Common.{ap, not}
use Rattle.start.proofs.Parts.{tested_valid}
use Rattle.calls.proofs.Feeding.{feed_no_station, feed_short, feed_invalid, feeds_with}
use Rattle.calls.proofs.feed.Goals as goal

pub returns-in_default : goal.returns-in_default
returns-in_default c = feed_no_station _ _ _ _ _ _ _ _ _ c.in_default.ensures

pub returns-then-out-lt-MAX_ANSWER : goal.returns-then-out-lt-MAX_ANSWER
returns-then-out-lt-MAX_ANSWER c = feed_short _ _ _ _ _ _ _ _ _ c.in-Some.ensures.1 c.if-out-lt-MAX_ANSWER.true

pub returns-then-not-valid : goal.returns-then-not-valid
returns-then-not-valid c = feed_invalid _ _ _ _ _ _ _ _ _ c.in-Some.ensures.1 c.if-out-lt-MAX_ANSWER.false _ c.valid.ensures (ap not c.if-not-valid.true)

pub accept-turn-requires : goal.accept-turn-requires
accept-turn-requires c = (tested_valid c.valid.ensures (ap not c.if-not-valid.false), c.if-out-lt-MAX_ANSWER.false)

pub returns : goal.returns
returns c = feeds_with _ _ _ _ _ _ _ _ _ c.in-Some.ensures.1 c.if-out-lt-MAX_ANSWER.false _ c.valid.ensures c.type_inv.chunk (ap not c.if-not-valid.false) (rw c.in-Some.ensures.0 at c.accept-turn.ensures)
