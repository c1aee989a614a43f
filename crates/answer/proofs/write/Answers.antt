-- A refusal by its number, and the answers of a success: the status is one byte. Assumes nothing.
use borrow.Author.Rules.{rules}
use Rattle.answer.proofs.Answers.{numbered, done, value, values, report}
use Rattle.answer.proofs.write.Goals as goal

pub returns-in-Numbered : goal.returns-in-Numbered
returns-in-Numbered c = search (rules, numbered)

pub returns-in-Done : goal.returns-in-Done
returns-in-Done c = search (rules, done)

pub returns-in-Value : goal.returns-in-Value
returns-in-Value c = search (rules, value)

pub returns-in-Values : goal.returns-in-Values
returns-in-Values c = search (rules, values)

pub returns-in-Report : goal.returns-in-Report
returns-in-Report c = search (rules, report)
