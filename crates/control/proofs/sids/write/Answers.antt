-- Of the section, where the words are as many as the control words. Assumes nothing.
use borrow.Author.Rules.{rules}
use Rattle.control.proofs.SidSection.{wrong_size, right_size, some_bytes}
use Rattle.control.proofs.sids.write.Goals as goal

pub returns-then-control-ne-CONTROL_WORDS-clause-written : goal.returns-then-control-ne-CONTROL_WORDS-clause-written
returns-then-control-ne-CONTROL_WORDS-clause-written c = search (rules, wrong_size)

pub returns-clause-written : goal.returns-clause-written
returns-clause-written c = search (rules, right_size)

pub returns-clause-some : goal.returns-clause-some
returns-clause-some c = search (rules, some_bytes)
