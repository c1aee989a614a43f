-- One entry is judged. Assumes nothing.
use native.Mathlib.Omega.{arith}
use mathlib.Core.Path.{refl, ap}
use mathlib.Core.Bool.{Bool, ◌&&◌}
use Rattle.body.proofs.Passes.{goes_on, stops}
use Rattle.adjust_groups.proofs.GroupEntries.{entry_valid, index_in}
use Rattle.adjust_groups.proofs.group_entries.turn.Goals as goal

pub returns-then-valid-has : goal.returns-then-valid-has
returns-then-valid-has c = stops _ _ _ _ _ _ _ _ (entry_valid c.args.groups.now c.args.e.key c.args.e.value) c.has.ensures c.if-valid-has.true

pub returns : goal.returns
returns c =
    let i = index_in c.args.groups.now _ c.has.result c.args.e.key c.args.e.value refl c.if-valid-has.false in
    goes_on _ _ _ _ _ _ _ _ (entry_valid c.args.groups.now c.args.e.key c.args.e.value) c.has.ensures c.if-valid-has.false (omega (arith, i, c.requires)) _
    (ap (λ (x : Bool). c.args.g.free && x) c.is_unprotected.ensures) _ _ c.bit.ensures c.with.ensures
