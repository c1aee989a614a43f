-- A packed SID, and what stands behind the user. Assumes nothing.
use borrow.Author.Rules.{rules}
use Rattle.body.proofs.Bodies.{no_packed_user, packed_user}
use Rattle.body.proofs.layout.create_packed.Goals as goal

pub returns-in_err-skip_packed : goal.returns-in_err-skip_packed
returns-in_err-skip_packed c = search (rules, no_packed_user)

pub returns : goal.returns
returns c = packed_user c.in_ok-skip_packed.ensures _ c.behind_user.ensures
