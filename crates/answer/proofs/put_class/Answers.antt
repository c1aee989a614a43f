-- Each class of several numbers, and those of one. Assumes nothing.
use borrow.Author.Rules.{rules}
use Rattle.rules.specs.Query.{words, classes, class_bytes}
use Rattle.rules.specs.Memory.{identity_at, privileges_at, token_at}
use Rattle.answer.proofs.Answers.{same_room, same_wrote, class_fits_in, class_wrote, one_wrote}
use Rattle.answer.proofs.put_class.Goals as goal

pub put_groups-requires : goal.put_groups-requires
unfolding class_bytes classes token_at identity_at privileges_at words
put_groups-requires c = search (rules, class_fits_in)

pub put_privileges-requires : goal.put_privileges-requires
unfolding class_bytes classes token_at identity_at privileges_at words
put_privileges-requires c = search (rules, class_fits_in)

pub put_all-requires : goal.put_all-requires
unfolding class_bytes classes token_at identity_at privileges_at words
put_all-requires c = search (rules, same_room, class_fits_in)

pub put_sids-requires : goal.put_sids-requires
unfolding class_bytes classes token_at identity_at privileges_at words
put_sids-requires c = search (rules, class_fits_in)

pub returns-in-Groups : goal.returns-in-Groups
unfolding class_bytes classes token_at identity_at privileges_at words
returns-in-Groups c = search (rules, class_wrote)

pub returns-in-Privileges : goal.returns-in-Privileges
unfolding class_bytes classes token_at identity_at privileges_at words
returns-in-Privileges c = search (rules, class_wrote)

pub returns-in-Statistics : goal.returns-in-Statistics
unfolding class_bytes classes token_at identity_at privileges_at words
returns-in-Statistics c = search (rules, class_wrote, same_wrote _ _ _ c.statistics.ensures c.put_all.ensures)

pub returns-in-Restricting : goal.returns-in-Restricting
unfolding class_bytes classes token_at identity_at privileges_at words
returns-in-Restricting c = search (rules, class_wrote)

pub returns-in-Single : goal.returns-in-Single
returns-in-Single c = search (rules, one_wrote)
