-- token_rows::owner_valid meets its contract: by what the index names. Assumes nothing.
use Rattle.std.proofs.Common.{rules}
use Rattle.token_rows.proofs.Groups.{owner_user, owner_group}
use Rattle.token_rows.proofs.owner_valid.Goals as goal

pub returns-then-owner-eq0 : goal.returns-then-owner-eq0
returns-then-owner-eq0 c = search (rules, owner_user)

pub returns-else-owner-eq0 : goal.returns-else-owner-eq0
returns-else-owner-eq0 c = owner_group c.args.groups.now c.args.owner c.get.result c.if-owner-eq0.false c.get.ensures.lookup.3 (search rules)
