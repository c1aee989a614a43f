-- By the handle, then by the class and its size. Assumes nothing.
use Rattle.std.proofs.Common.{rules}
use Rattle.std.proofs.lemmas.Result.{err_from_is_err_and}
use Rattle.query.proofs.QueryEnding.{not_located, no_class, too_small, class_given}
use Rattle.query.proofs.query.Goals as goal

pub returns-in_err-slot : goal.returns-in_err-slot
returns-in_err-slot c = let p = err_from_is_err_and c.from_residual.result c.from_residual.ensures.1 in rw (p.1, p.2) (not_located _ _ _ _ _ _ _ _ c.in_err-slot.ensures)

pub returns-in_err-class : goal.returns-in_err-class
returns-in_err-class c =
    let p = err_from_is_err_and c.from_residual-in_err-class.result c.from_residual-in_err-class.ensures.1 in
    rw (p.1, p.2) (no_class _ _ _ _ _ _ _ _ _ c.in_ok-slot.ensures c.in_err-class.ensures)

pub returns-then-from-needed : goal.returns-then-from-needed
returns-then-from-needed c = too_small _ _ _ _ _ _ _ _ _ c.in_ok-slot.ensures _ c.in_ok-class.ensures _ (rw c.row.ensures at c.size-needed.ensures) (search rules)

pub returns : goal.returns
returns c = rw c.ends.ensures (class_given _ _ _ _ _ _ _ _ _ c.in_ok-slot.ensures _ c.in_ok-class.ensures _ (rw c.row.ensures at c.size-needed.ensures) (search rules))
