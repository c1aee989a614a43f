-- One by one. Assumes nothing.
use Rattle.std.proofs.Common.{◌≡◌, ◌+◌, ◌*◌, ◌-◌, take, drop, arith, refl}
use Rattle.copy.proofs.RestrictingSids.{keep_begin, keep_one, keep_none, keep_end}
use Rattle.copy.proofs.restricting.kept.Goals as goal
use Rattle.copy.proofs.restricting.kept.Goals.{then-stays, else-stays}

pub loop-sid-init : goal.loop-sid-init
loop-sid-init g c = keep_begin _

pub loop-sid-preserved : goal.loop-sid-preserved
loop-sid-preserved g c =
    elim c.if-stays.branch [
      | then-stays w ↦ keep_one _ c.loop-sid.invariant (omega arith) _ refl (λ f y. y _ _ c.stays.ensures) w.if-stays.true w.push.ensures w.list-is
      | else-stays w ↦ keep_none _ c.loop-sid.invariant (omega arith) _ refl (λ f y. y _ _ c.stays.ensures) w.if-stays.false w.list-is
    ]

pub returns : goal.returns
returns g c = keep_end _ c.requires.within.1 (λ i. take (size i) (drop (c.args.slot * 101 + 85) c.args.tokens.now)) c.loop-sid.invariant (omega arith)
  where
    size : c.args.slot * 101 + 85 + c.args.own - (c.args.slot * 101 + 85) ≡ c.args.own
    size = omega arith
