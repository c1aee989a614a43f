-- `skip_packed_sids` meets its contract: the loop is Skipping's. Assumes nothing.
use Rattle.rules.specs.Request.{packed_sid}
use Rattle.body.proofs.Skipping.{Skipping}
use Rattle.body.proofs.sid_form.skip_packed_sids.Given as goal

abbrev pub invariant-loop : goal.invariant-loop
invariant-loop l = Skipping packed_sid l.initial.rest l.count l.rest l.counter
