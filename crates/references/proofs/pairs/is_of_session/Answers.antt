-- references::pairs::is_of_session meets its contract: the two tests of the row. Assumes nothing.
use Rattle.rules.specs.Link.{is_of_session}
use Rattle.rules.specs.Memory.{token_at, identity_at}
use Rattle.references.proofs.pairs.is_of_session.Goals as goal

pub returns : goal.returns
unfolding is_of_session token_at identity_at
returns c = cc
