-- The parts are what the start's state is written as. Assumes nothing.
use mathlib.Core.Path.{ap, ◌∙◌}
use Prim.Native.Nat.{ℕ}
use lib.ListN.{replicate}
use Rattle.start.proofs.Starting.{begun}
use Rattle.start.proofs.initial.write.Goals as goal

pub returns : goal.returns
returns c = begun c.write_tokens.ensures c.write.ensures (c.fill.ensures.after (λ y e. e) ∙ ap (λ (n : ℕ). replicate n 0) c.requires.pending)
