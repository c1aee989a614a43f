-- The first place that names no elevated token. Assumes nothing.
use borrow.Author.Rules.{rules}
use Rattle.control.proofs.PairRows.{place_free}
use Rattle.control.proofs.pairs.free_place.Goals as goal

pub returns : goal.returns
returns c = place_free c.args.control.now (λ k b h. search rules) c.position.ensures
