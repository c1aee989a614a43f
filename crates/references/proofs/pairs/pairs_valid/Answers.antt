-- references::pairs::pairs_valid meets its contract: as its callees say. Assumes nothing.
use Rattle.references.specs.Tests.{pairs_test}
use Rattle.references.proofs.pairs.pairs_valid.Goals as goal

pub returns : goal.returns
unfolding pairs_test
returns c = cc
