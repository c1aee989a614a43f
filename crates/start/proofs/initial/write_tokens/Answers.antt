-- Zeros, and then the head of token 1. Assumes nothing.
use mathlib.Core.Path.{ap, ◌∙◌}
use Prim.Native.Nat.{ℕ}
use lib.ListN.{replicate}
use Rattle.rules.specs.Token.{primary_of}
use Rattle.start.proofs.Starting.{tokens_begun}
use Rattle.start.proofs.initial.write_tokens.Goals as goal

pub returns : goal.returns
unfolding primary_of
returns c =
    tokens_begun _
    (c.fill.ensures.after (λ y e. e) ∙ ap (λ (n : ℕ). replicate n 0) c.told-tokens)
    (c.fill-2.ensures.after (λ y e. e) ∙ ap (λ (n : ℕ). replicate n 0) c.told-dacls)
    c.granted-privileges.ensures c.set_head.ensures
