-- What is freed in the state with the new client is what the rules' sweep frees. Assumes nothing.
use borrow.Author.Rules.{rules}
use Rattle.state.proofs.ReleaseLaws.{acts_from}
use Rattle.state.proofs.parts.Parts.act_for.Goals as goal

pub returns-clause-acts : goal.returns-clause-acts
returns-clause-acts c = search (rules, acts_from)
