-- The station's handle is live in a valid state. Assumes nothing.
use Rattle.decide.proofs.Locating.{locates_by}
use Rattle.decide.proofs.located.located_by.Goals as goal

pub returns : goal.returns
returns c = locates_by c.in-Some.ensures.given c.in-Some.ensures.live c.permits-permitted.ensures c.locate.result c.locate.ensures
