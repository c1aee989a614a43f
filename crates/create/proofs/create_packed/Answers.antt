-- A law for each end. Assumes nothing.
use native.Mathlib.Omega.{arith}
use mathlib.Core.Path.{◌≡◌}
use borrow.Author.Rules.{rules}
use Rattle.std.specs.Prelude.{Ok, Err}
use Rattle.std.proofs.lemmas.Grind.{common_steps}
use Rattle.std.proofs.lemmas.Result.{err_from_is_err_and}
use Rattle.create.proofs.PackedEnding.{packed_not_held, packed_broken, packed_refused, packed_no_room, packed_creates}
use Rattle.create.proofs.create_packed.Goals as goal

pub returns-then-not-held-clause-carried : goal.returns-then-not-held-clause-carried
returns-then-not-held-clause-carried c = packed_not_held _ _ _ c.held.ensures (search rules)

pub returns-then-not-is_packed-table_valid-clause-carried : goal.returns-then-not-is_packed-table_valid-clause-carried
returns-then-not-is_packed-table_valid-clause-carried c = packed_broken _ _ _ c.held.ensures c.sids-table.ensures c.is_packed.ensures c.table_valid.ensures (search rules)

pub returns-in_err-make_packed-clause-carried : goal.returns-in_err-make_packed-clause-carried
returns-in_err-make_packed-clause-carried c =
    let p = err_from_is_err_and c.from_residual.result c.from_residual.ensures.1 in
    let refused : c.make_packed.result ≡ Err p.0 = grind (arith, common_steps) in
    rw p.1 (packed_refused _ _ _ c.held.ensures (search rules) c.sids-table.ensures (rw refused at c.make_packed.ensures))

pub returns-in_err-end-clause-carried : goal.returns-in_err-end-clause-carried
returns-in_err-end-clause-carried c =
    let p = err_from_is_err_and c.from_residual-in_err-end.result c.from_residual-in_err-end.ensures.1 in
    let made : c.make_packed.result ≡ Ok _ = grind (arith, common_steps) in
    rw (p.1, p.2) (packed_no_room _ _ _ c.held.ensures (search rules) c.sids-table.ensures (rw made at c.make_packed.ensures) c.in_err-end.ensures.created)

pub returns-clause-carried : goal.returns-clause-carried
returns-clause-carried c =
    let made : c.make_packed.result ≡ Ok _ = grind (arith, common_steps) in
    packed_creates _ _ _ c.held.ensures (search rules) c.sids-table.ensures (rw made at c.make_packed.ensures) c.next-n.ensures c.in_ok-end.ensures.created c.set.ensures
