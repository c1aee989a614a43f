-- The first live place whose pair has the token. Assumes nothing.
use borrow.Author.Rules.{rules}
use Rattle.rules.specs.Pair.{has}
use Rattle.control.proofs.PairRows.{pair_found}
use Rattle.control.proofs.pairs.place_with.Goals as goal

pub returns : goal.returns
unfolding has
returns c = pair_found c.args.control.now (has c.args.token) (λ k b h. search rules) c.position.ensures
