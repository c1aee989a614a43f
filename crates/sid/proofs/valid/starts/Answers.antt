-- sid::valid::starts meets its contract: word by word. Assumes nothing.
use borrow.Author.Rules.{rules}
use Rattle.sid.specs.Tests.{starts_test}
use Rattle.sid.proofs.valid.starts.Goals as goal

pub returns : goal.returns
unfolding starts_test
returns c = search rules
