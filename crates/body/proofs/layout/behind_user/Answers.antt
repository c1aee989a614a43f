-- Five numbers and the groups. Assumes nothing.
use Rattle.std.proofs.Common.{refl, ◌∙◌}
use Rattle.body.proofs.Lists.{further}
use Rattle.body.proofs.Bodies.{on_some, on_none, list_ends, step, list_step, list_lost, finish, refuse}
use Rattle.body.proofs.Steps.{bind_got}
use Rattle.rules.specs.Request.{create_layout, u32, u64, group}
use Rattle.body.proofs.layout.behind_user.Goals as goal

pub returns-in_err-skip_groups : goal.returns-in_err-skip_groups
unfolding create_layout u32 u64
returns-in_err-skip_groups g c =
    let e = c.from_residual-in_err-skip_groups.ensures in
    record {
      parsed =
          λ bytes x d.
          refuse _ e
          (bind_got g.S.SidForm.reader _ bytes x _ d
          ∙ step _ c.in_ok-session.ensures.read ∙ step _ c.in_ok-integrity.ensures.read ∙ step _ c.in_ok-present.ensures.read ∙ step _ c.in_ok-by_default.ensures.read ∙ step _ c.in_ok-count.ensures.read
          ∙ list_lost (group g.S.SidForm.reader) _ _ c.in_err-skip_groups.ensures);
      same = on_none _ e;
      there = on_none _ e;
    }

pub returns : goal.returns
unfolding create_layout u32 u64
returns g c =
    let o = further c.number.ensures.read.onward (further c.number-2.ensures.read.onward (further c.number-3.ensures.read.onward (further c.number-4.ensures.read.onward c.number-5.ensures.read.onward))) in
    record {
      parsed =
          λ bytes x d.
          finish _ _ _ c.then_some.ensures c.is_ended.ensures
          (bind_got g.S.SidForm.reader _ bytes x _ d
          ∙ step _ c.in_ok-session.ensures.read ∙ step _ c.in_ok-integrity.ensures.read ∙ step _ c.in_ok-present.ensures.read ∙ step _ c.in_ok-by_default.ensures.read ∙ step _ c.in_ok-count.ensures.read
          ∙ list_step (group g.S.SidForm.reader) _ _ o c.in_ok-skip_groups.ensures);
      same = on_some _ _ c.then_some.ensures (λ h. refl);
      there = on_some _ _ c.then_some.ensures (list_ends (group g.S.SidForm.reader) _ o c.in_ok-skip_groups.ensures c.is_ended.ensures);
    }
