-- references::handles::live meets its contract: its loop tests each handle, and keeps numbers of the live ones; the pairs' and the stations' tokens come behind. Assumes nothing.
use mathlib.Core.Path.{refl}
use native.Mathlib.Omega.{arith}
use borrow.Author.Rules.{rules}
use Rattle.rules.specs.State.{handle_slots}
use Rattle.handle.proofs.Words.{records_long}
use Rattle.references.proofs.Loops.{counted, sorting_none, sorting_more, sorting_tested, sorting_first}
use Rattle.references.proofs.Lists.{at_referred}
use Rattle.references.proofs.handles.live.Goals as goal

pub loop-i-init : goal.loop-i-init
loop-i-init c = sorting_none _ _ _ _ _ _ _ _ _ _ (records_long handle_slots _) (omega arith) refl refl

pub loop-i-preserved : goal.loop-i-preserved
loop-i-preserved c = sorting_more _ _ _ _ _ _ c.loop-i.invariant (search rules) c.at-h.ensures c.fields_valid-ok.ensures refl refl (counted _ c.from-count.ensures)

pub returns : goal.returns
returns c =
    let sorted = c.loop-i.invariant in
    let past = c.loop-i-test.false in
    record {
      fields = sorting_tested _ _ _ _ _ _ sorted past;
      called = sorting_first _ _ _ _ _ _ sorted past;
      refers = at_referred _ _ _ _ _ _ _ sorted past c.add_pairs-k.ensures c.add_pairs-held.ensures c.add_stations.ensures c.add_stations-2.ensures;
    }
