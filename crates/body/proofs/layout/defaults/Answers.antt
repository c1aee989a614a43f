-- Five numbers and the bytes. Assumes nothing.
use Rattle.std.proofs.Common.{◌∙◌}
use Rattle.body.proofs.Lists.{further}
use Rattle.body.proofs.Bodies.{on_some, list_ends, step, list_step, finish}
use Rattle.rules.specs.Request.{defaults_layout, u16, u32, byte}
use Rattle.body.proofs.layout.defaults.Goals as goal

pub returns-clause-parsed : goal.returns-clause-parsed
unfolding defaults_layout u16 u32
returns-clause-parsed c =
    let o = further c.number.ensures.read.onward (further c.number-2.ensures.read.onward (further c.number-3.ensures.read.onward (further c.number-4.ensures.read.onward c.number-5.ensures.read.onward))) in
    finish _ _ _ c.then_some.ensures c.is_ended.ensures
    (step _ c.in_ok-handle.ensures.read ∙ step _ c.in_ok-owner.ensures.read ∙ step _ c.in_ok-group.ensures.read ∙ step _ c.in_ok-flag.ensures.read ∙ step _ c.in_ok-size.ensures.read ∙ list_step byte _ _ o c.in_ok-bytes.ensures.passed)

pub returns-clause-there : goal.returns-clause-there
returns-clause-there c =
    let o = further c.number.ensures.read.onward (further c.number-2.ensures.read.onward (further c.number-3.ensures.read.onward (further c.number-4.ensures.read.onward c.number-5.ensures.read.onward))) in
    on_some _ _ c.then_some.ensures (list_ends byte _ o c.in_ok-bytes.ensures.passed c.is_ended.ensures)
