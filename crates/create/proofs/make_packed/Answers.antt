-- The user's SID, the groups, and then the head. Assumes nothing.
use borrow.Author.Rules.{rules}
use Rattle.std.proofs.lemmas.Result.{err_from_is_err_and}
use Rattle.create.proofs.PackedGroups.{rowed_at}
use Rattle.create.proofs.PackedEnding.{fields_refused, groups_refused, user_without_room, packed_made}
use Rattle.create.proofs.make_packed.Goals as goal

pub returns-then-not-fields_good : goal.returns-then-not-fields_good
returns-then-not-fields_good c = fields_refused _ _ _ c.fields_good.ensures (search rules) (search rules)

pub enter-first-requires : goal.enter-first-requires
enter-first-requires c = (search rules, rowed_at c.row_at-user.ensures)

pub returns-in_err-read_packed_groups : goal.returns-in_err-read_packed_groups
returns-in_err-read_packed_groups c =
    let p = err_from_is_err_and c.from_residual.result c.from_residual.ensures.1 in
    rw (p.1, p.2) (groups_refused _ _ _ c.fields_good.ensures (search rules) c.row_at-user.ensures c.enter-first.ensures c.in_err-read_packed_groups.ensures)

pub returns-in_default : goal.returns-in_default
returns-in_default c = user_without_room _ _ _ c.fields_good.ensures (search rules) c.row_at-user.ensures c.in_default.ensures c.in_ok-read_packed_groups.ensures

pub returns : goal.returns
returns c = packed_made _ _ _ c.fields_good.ensures (search rules) c.row_at-user.ensures c.in-Some.ensures c.in_ok-read_packed_groups.ensures c.set_head.ensures _
