-- A law for each end. Assumes nothing.
use borrow.Author.Rules.{rules}
use Rattle.std.proofs.lemmas.Result.{err_from_is_err_and}
use Rattle.create.proofs.CreateEnding.{create_not_held, create_refused, creates}
use Rattle.create.proofs.create.Goals as goal

pub returns-then-not-held-clause-carried : goal.returns-then-not-held-clause-carried
returns-then-not-held-clause-carried c = create_not_held _ _ _ c.held.ensures (search rules)

pub returns-in_err-make-clause-carried : goal.returns-in_err-make-clause-carried
returns-in_err-make-clause-carried c =
    let p = err_from_is_err_and c.from_residual.result c.from_residual.ensures.1 in
    rw (p.1, p.2) (create_refused _ _ _ c.held.ensures (search rules) c.known_sids-known.ensures c.in_err-make.ensures)

pub returns-clause-carried : goal.returns-clause-carried
returns-clause-carried c = creates _ _ _ c.held.ensures (search rules) c.known_sids-known.ensures c.in_ok-make.ensures c.next-n.ensures c.issue_created.ensures.created
