-- valid::valid meets its contract: by the sizes. Assumes nothing.
use borrow.Author.Rules.{rules}
use Rattle.handle.proofs.Words.{records_long}
use Rattle.valid.proofs.Sizes.{wrong_tokens, wrong_dacls, wrong_count, wrong_control, wrong_pending, valid_tested}
use Rattle.valid.proofs.valid.Goals as goal

pub returns-in_default : goal.returns-in_default
returns-in_default c = wrong_pending _ c.in_default.ensures'''.cases

pub returns-in_default-2 : goal.returns-in_default-2
returns-in_default-2 c = search (rules, wrong_control)

pub returns-in_default-3 : goal.returns-in_default-3
returns-in_default-3 c = search (rules, wrong_dacls)

pub returns-in_default-4 : goal.returns-in_default-4
returns-in_default-4 c = search (rules, wrong_tokens)

pub returns-else-count-eq-SLOTS : goal.returns-else-count-eq-SLOTS
returns-else-count-eq-SLOTS c = search (rules, wrong_count)

pub returns-then-count-eq-SLOTS : goal.returns-then-count-eq-SLOTS
returns-then-count-eq-SLOTS c =
    let s = c.in-Some-Some-Some-Some in
    valid_tested _ s.ensures.cases s.ensures'.cases s.ensures''.cases s.ensures'''.cases (search rules) (search (rules, records_long)) (search (rules, c.type_inv.control 0)) c.parts_valid.ensures
