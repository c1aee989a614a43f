-- What is freed in the state with the new token is what the rules' sweep frees. Assumes nothing.
use borrow.Author.Rules.{rules}
use Rattle.state.proofs.ReleaseLaws.{installed}
use Rattle.state.proofs.parts.Parts.install.Goals as goal

pub returns-clause-installed : goal.returns-clause-installed
returns-clause-installed c = search (rules, installed)
