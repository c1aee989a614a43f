-- The groups that were read, and then the head. Assumes nothing.
use borrow.Author.Rules.{rules}
use Rattle.std.proofs.lemmas.Result.{err_from_is_err_and}
use Rattle.create.proofs.CreateEnding.{row_refused, groups_refused, row_made}
use Rattle.create.proofs.make.Goals as goal

pub returns-then-not-fields_good-is_number : goal.returns-then-not-fields_good-is_number
returns-then-not-fields_good-is_number c = row_refused _ _ _ _ c.fields_good.ensures c.is_number.ensures (search rules) (search rules)

pub returns-in_err-read_groups : goal.returns-in_err-read_groups
returns-in_err-read_groups c =
    let p = err_from_is_err_and c.from_residual.result c.from_residual.ensures.1 in
    rw (p.1, p.2) (groups_refused _ _ _ _ c.fields_good.ensures c.is_number.ensures (search rules) c.in_err-read_groups.ensures)

pub returns : goal.returns
returns c = row_made _ _ _ _ c.fields_good.ensures c.is_number.ensures (search rules) c.in_ok-read_groups.ensures c.set_head.ensures _
