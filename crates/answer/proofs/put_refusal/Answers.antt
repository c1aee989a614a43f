-- A refusal that tells a size, and the others. Assumes nothing.
use Rattle.answer.proofs.Answers.{told, untold}
use Rattle.answer.proofs.put_refusal.Goals as goal

pub returns-in-CapacityBelow : goal.returns-in-CapacityBelow
returns-in-CapacityBelow c = told c.args.r c.in-CapacityBelow.size c.in-CapacityBelow.is c.number.ensures c.put.ensures

pub returns-in_default : goal.returns-in_default
returns-in_default c = untold c.args.r c.in_default.not-CapacityBelow c.number-in_default.ensures c.put-in_default.ensures
