-- Five numbers and two lists. Assumes nothing.
use Rattle.std.proofs.Common.{◌∙◌}
use Rattle.body.proofs.Lists.{further}
use Rattle.body.proofs.Bodies.{on_some, on_none, list_before, list_ends, step, list_step, list_lost, finish, refuse}
use Rattle.rules.specs.Request.{restrict_layout, u32, u64}
use Rattle.body.proofs.layout.restrict.Goals as goal

pub returns-in_err-numbers : goal.returns-in_err-numbers
unfolding restrict_layout u32 u64
returns-in_err-numbers g c =
    let e = c.from_residual-in_err-numbers.ensures in
    record {
      parsed = refuse _ e (step _ c.in_ok-handle.ensures.read ∙ step _ c.in_ok-mark.ensures.read ∙ step _ c.in_ok-removed.ensures.read ∙ step _ c.in_ok-deny_count.ensures.read ∙ step _ c.in_ok-sid_count.ensures.read ∙ list_lost u32 _ _ c.in_err-numbers.ensures.passed);
      deny = on_none _ e;
      sids = on_none _ e;
    }

pub returns-in_err-skip_sids : goal.returns-in_err-skip_sids
unfolding restrict_layout u32 u64
returns-in_err-skip_sids g c =
    let e = c.from_residual-in_err-skip_sids.ensures in
    let o = further c.number.ensures.read.onward (further c.number-2.ensures.read.onward (further c.number-3.ensures.read.onward (further c.number-4.ensures.read.onward c.number-5.ensures.read.onward))) in
    record {
      parsed =
          refuse _ e
          (step _ c.in_ok-handle.ensures.read ∙ step _ c.in_ok-mark.ensures.read ∙ step _ c.in_ok-removed.ensures.read ∙ step _ c.in_ok-deny_count.ensures.read ∙ step _ c.in_ok-sid_count.ensures.read
          ∙ list_step u32 _ _ o c.in_ok-numbers.ensures.passed
          ∙ list_lost g.S.SidForm.reader _ _ c.in_err-skip_sids.ensures);
      deny = on_none _ e;
      sids = on_none _ e;
    }

pub returns : goal.returns
unfolding restrict_layout u32 u64
returns g c =
    let o = further c.number.ensures.read.onward (further c.number-2.ensures.read.onward (further c.number-3.ensures.read.onward (further c.number-4.ensures.read.onward c.number-5.ensures.read.onward))) in
    let q = further o c.in_ok-numbers.ensures.passed.onward in
    record {
      parsed =
          finish _ _ _ c.then_some.ensures c.is_ended.ensures
          (step _ c.in_ok-handle.ensures.read ∙ step _ c.in_ok-mark.ensures.read ∙ step _ c.in_ok-removed.ensures.read ∙ step _ c.in_ok-deny_count.ensures.read ∙ step _ c.in_ok-sid_count.ensures.read
          ∙ list_step u32 _ _ o c.in_ok-numbers.ensures.passed
          ∙ list_step g.S.SidForm.reader _ _ q c.in_ok-skip_sids.ensures);
      deny = on_some _ _ c.then_some.ensures (λ h. list_before u32 _ o c.in_ok-numbers.ensures.passed);
      sids = on_some _ _ c.then_some.ensures (list_ends g.S.SidForm.reader _ q c.in_ok-skip_sids.ensures c.is_ended.ensures);
    }
