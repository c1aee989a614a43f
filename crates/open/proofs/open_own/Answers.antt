-- By the tests of the mask and of the room. Assumes nothing.
use Rattle.decide.proofs.LookupLaws.{mask_narrow}
use Rattle.open.proofs.OpenCloseEnding.{bad_mask, no_room, opened}
use Rattle.open.proofs.open_own.Goals as goal

pub returns-then-not-valid-clause-carried : goal.returns-then-not-valid-clause-carried
returns-then-not-valid-clause-carried c = bad_mask _ _ c.valid.ensures c.if-not-valid.true

pub returns-then-not-can_add_handle-clause-carried : goal.returns-then-not-can_add_handle-clause-carried
returns-then-not-can_add_handle-clause-carried c = no_room _ _ c.valid.ensures c.if-not-valid.false c.can_add_handle.ensures c.if-not-can_add_handle.true

pub overflow_cast-mask : goal.overflow_cast-mask
overflow_cast-mask c = record { fits = mask_narrow _ c.valid.ensures c.if-not-valid.false }

pub returns-clause-carried : goal.returns-clause-carried
returns-clause-carried c = rw (c.add_handle-change.ensures.tokens, c.add_handle-change.ensures.dacls)
    (opened _ _ c.valid.ensures c.if-not-valid.false c.can_add_handle.ensures c.if-not-can_add_handle.false _ c.caller_number-own.ensures c.add_handle-change.ensures.added)
