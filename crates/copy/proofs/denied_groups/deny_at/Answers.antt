-- A group's word, or none. Assumes nothing.
use borrow.Author.Rules.{rules}
use Rattle.copy.proofs.RestrictedRow.{denies, denies_none}
use Rattle.copy.proofs.denied_groups.deny_at.Goals as goal

pub returns-then-index-size : goal.returns-then-index-size
returns-then-index-size c = search (rules, denies)

pub returns-else-index-size : goal.returns-else-index-size
returns-else-index-size c = search (rules, denies_none)
