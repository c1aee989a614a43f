-- A token in no slot. Assumes nothing.
use Rattle.decide.proofs.Locating.{found_lost}
use Rattle.decide.proofs.located.locate.Goals as goal

pub returns-in_default-find : goal.returns-in_default-find
returns-in_default-find c = found_lost c.args.permitted c.in-Some.is c.in_default-find.ensures.slot
