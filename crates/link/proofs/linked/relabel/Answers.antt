-- Four words. Assumes nothing.
use Rattle.link.proofs.LinkedEnding.{relabelled}
use Rattle.link.proofs.linked.relabel.Goals as goal

pub returns : goal.returns
returns c = relabelled c.args.n c.told-words
