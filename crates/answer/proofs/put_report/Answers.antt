-- Sixteen words, of which the first is given. Assumes nothing.
use borrow.Author.Rules.{rules}
use Rattle.answer.proofs.Answers.{report_fits}
use Rattle.answer.proofs.put_report.Goals as goal

pub put_all-requires : goal.put_all-requires
put_all-requires c = search (rules, report_fits)
