-- Two numbers and the entries. Assumes nothing.
use Rattle.std.proofs.Common.{◌∙◌}
use Rattle.body.proofs.Lists.{further, entries_passed}
use Rattle.body.proofs.Bodies.{on_some, on_none, list_ends, step, list_step, list_lost, finish, refuse}
use Rattle.rules.specs.Request.{entries_layout, u32, entry}
use Rattle.body.proofs.layout.entries.Goals as goal

pub returns-in_err-numbers : goal.returns-in_err-numbers
unfolding entries_layout u32
returns-in_err-numbers c =
    let e = c.from_residual-in_err-numbers.ensures in
    record {
      parsed = λ request. refuse _ e (step _ c.in_ok-handle.ensures.read ∙ step _ c.in_ok-count.ensures.read ∙ list_lost entry _ _ (entries_passed _ c.in_err-numbers.ensures.passed));
      there = on_none _ e;
    }

pub returns : goal.returns
unfolding entries_layout u32
returns c =
    let o = further c.number.ensures.read.onward c.number-2.ensures.read.onward in
    let h = entries_passed c.in_ok-count.count c.in_ok-numbers.ensures.passed in
    record {
      parsed = λ request. finish _ _ _ c.then_some.ensures c.is_ended.ensures (step _ c.in_ok-handle.ensures.read ∙ step _ c.in_ok-count.ensures.read ∙ list_step entry _ _ o h);
      there = on_some _ _ c.then_some.ensures (list_ends entry _ o h c.is_ended.ensures);
    }
