-- The refusal's body is its number. Assumes nothing.
use Rattle.rules.specs.Refusal.{refusal}
use Rattle.calls.proofs.accept.answer_break.Goals as goal

pub returns : goal.returns
unfolding refusal
returns c = c.write.ensures
