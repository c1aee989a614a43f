-- The first live place whose pair is the session's. Assumes nothing.
use borrow.Author.Rules.{rules}
use Rattle.rules.specs.Pair.{is_of}
use Rattle.control.proofs.PairRows.{pair_found}
use Rattle.control.proofs.pairs.place_of.Goals as goal

pub returns : goal.returns
unfolding is_of
returns c = pair_found c.args.control.now (is_of c.args.session) (λ k b h. search rules) c.position.ensures
