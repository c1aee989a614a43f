-- The privileges, and five words. Assumes nothing.
use borrow.Author.Rules.{rules}
use Rattle.copy.proofs.RestrictedRow.{limits}
use Rattle.copy.proofs.restricted_row.limit.Goals as goal

pub returns : goal.returns
returns c = search (rules, limits, c.set_privileges.auto.words)
