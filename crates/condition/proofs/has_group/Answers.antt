-- By the words. Assumes nothing.
use Rattle.std.proofs.Common.{arith}
use Rattle.std.proofs.lemmas.Grind.{common_steps}
use Rattle.condition.proofs.Groups.{some_word}
use Rattle.condition.proofs.has_group.Goals as goal

pub returns : goal.returns
returns c = some_word c.args.sid c.args.groups.now (grind (arith, common_steps))
