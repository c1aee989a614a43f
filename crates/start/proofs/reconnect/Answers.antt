-- By the tests of 11 and 13. Assumes nothing.
use Rattle.std.proofs.Common.{ap, not, arith, rules}
use Rattle.start.proofs.Parts.{control_long, pending_long}
use Rattle.start.proofs.Reconnecting.{reconnect_no_station, reconnect_invalid, reconnects_by}
use Rattle.start.proofs.reconnect.Goals as goal

pub returns-in_default : goal.returns-in_default
returns-in_default c = reconnect_no_station _ _ _ _ _ _ _ c.in_default.ensures

pub returns-then-not-valid : goal.returns-then-not-valid
returns-then-not-valid c = reconnect_invalid _ _ _ _ _ _ _ c.in-Some.ensures.1 _ c.valid.ensures (ap not c.if-not-valid.true)

pub whole-requires : goal.whole-requires
whole-requires c = (omega arith, control_long c.valid.ensures (ap not c.if-not-valid.false))

pub whole-requires-2 : goal.whole-requires-2
whole-requires-2 c = (omega arith, pending_long c.valid.ensures (ap not c.if-not-valid.false))

pub returns : goal.returns
returns c = reconnects_by _ _ _ _ _ _ _ c.in-Some.ensures.1 _ c.valid.ensures (ap not c.if-not-valid.false) c.drop_stream.ensures (search rules) c.whole.ensures.value c.whole-2.ensures.value _
