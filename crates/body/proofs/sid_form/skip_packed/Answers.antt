-- `skip_packed` meets its contract: by the size of what stands there. Assumes nothing.
use native.Mathlib.Omega.{arith}
use borrow.Author.Rules.{rules}
use Rattle.body.proofs.Sids.{sid_missing, sid_passed, sid_inside}
use Rattle.body.proofs.sid_form.skip_packed.Goals as goal

pub returns-in_err-rest : goal.returns-in_err-rest
returns-in_err-rest c = search (rules, sid_missing)

pub overflow_add-rest : goal.overflow_add-rest
overflow_add-rest c = omega (arith, sid_inside c.args.rest.now.body.now c.args.rest.now.at c.in_ok-rest.field-0 c.in_ok-rest.ensures)

pub returns : goal.returns
returns c = sid_passed c.args.rest.now c.in_ok-rest.field-0 c.in_ok-rest.ensures
