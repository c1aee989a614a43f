-- One SID more. Assumes nothing.
use Rattle.std.proofs.Common.{arith, refl}
use Rattle.copy.proofs.RestrictingSids.{adds}
use Rattle.copy.proofs.restricting.Sids.push.Goals as goal
use Rattle.copy.proofs.restricting.Sids.push.Goals.{then-self, else-self}

pub returns : goal.returns
returns c = elim c.if-self.branch [
  | then-self w ↦ rw w.self-is (adds _ _ (λ h. refl))
  | else-self w ↦ rw w.self-is (adds _ _ (λ h. absurd (omega arith)))
]
