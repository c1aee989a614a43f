-- A number, and what stands behind the user. Assumes nothing.
use borrow.Author.Rules.{rules}
use Rattle.body.proofs.Sids.{no_number_lem, number_there}
use Rattle.body.proofs.Bodies.{no_user, with_user}
use Rattle.body.proofs.layout.create.Goals as goal

pub returns-in_err-user : goal.returns-in_err-user
returns-in_err-user c = search (rules, no_user, no_number_lem)

pub returns : goal.returns
returns c = search (rules, with_user, number_there)
