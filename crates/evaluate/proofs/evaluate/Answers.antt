-- No condition, no handle, no such privilege, and the value. Assumes nothing.
use native.Mathlib.Omega.{arith}
use mathlib.Core.Path.{◌≡◌}
use Rattle.std.specs.Prelude.{Some, None, Err}
use Rattle.std.specs.Option.{ok_or}
use Rattle.std.proofs.Common.{rules}
use Rattle.std.proofs.lemmas.Grind.{common_steps}
use Rattle.std.proofs.lemmas.Result.{err_from_is_err_and}
use Rattle.answer.specs.declared.refusal.Refusal.TheVariants.{Malformed}
use Rattle.evaluate.proofs.EvaluateEnding.{no_condition, no_handle, unknown, value}
use Rattle.evaluate.proofs.evaluate.Goals as goal

pub returns-in_err-told : goal.returns-in_err-told
returns-in_err-told c =
    let p = err_from_is_err_and c.from_residual.result c.from_residual.ensures.1 in
    let none : c.evaluate_row.result ≡ None = grind (arith, common_steps) in
    let why : Err p.0 ≡ ok_or c.evaluate_row.result Malformed = grind (arith, common_steps) in
    rw p.1 (no_condition _ _ _ _ _ _ _ c.map_or-slot.result _ (rw c.row.ensures at c.evaluate_row.ensures) none _ why)

pub returns-in_err-located : goal.returns-in_err-located
returns-in_err-located c =
    let p = err_from_is_err_and c.from_residual-in_err-located.result c.from_residual-in_err-located.ensures.1 in
    let some : c.evaluate_row.result ≡ Some c.in_ok-told.told = grind (arith, common_steps) in
    rw (p.1, p.2) (no_handle _ _ _ _ _ _ _ c.map_or-slot.result _ (rw c.row.ensures at c.evaluate_row.ensures) _ some _ c.in_err-located.ensures)

pub returns-then-not-told : goal.returns-then-not-told
returns-then-not-told c =
    let some : c.evaluate_row.result ≡ Some c.in_ok-told.told = grind (arith, common_steps) in
    unknown _ _ _ _ _ _ _ c.map_or-slot.result _ (rw c.row.ensures at c.evaluate_row.ensures) _ some _ c.in_ok-located.ensures (search rules) (search rules)

pub returns : goal.returns
returns c =
    let some : c.evaluate_row.result ≡ Some c.in_ok-told.told = grind (arith, common_steps) in
    rw c.ends.ensures
    (value _ _ _ _ _ _ _ c.map_or-slot.result _ (rw c.row.ensures at c.evaluate_row.ensures) _ some _ c.in_ok-located.ensures (search rules) (search rules) _ c.from.ensures)
