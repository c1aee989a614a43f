-- references::handles::live meets its contract: its loop tests each handle, and keeps numbers of the live ones; the pairs' and the stations' tokens come behind. Assumes nothing.
use Rattle.rules.specs.State.{handle_slots}
use Rattle.handle.specs.Meaning.{none}
use Rattle.handle.specs.Words.{records_in}
use Rattle.lists.specs.Tests.{reference_slots}
use Rattle.references.specs.Tests.{token_in, client_in}
use Rattle.references.specs.Meaning.{number_of, token_of, fields_of}
use Rattle.references.proofs.Loops.{Sorting}
use Rattle.references.proofs.handles.live.Given as goal

abbrev pub invariant-loop-i : goal.invariant-loop-i
invariant-loop-i l = Sorting fields_of number_of number_of token_of none (records_in l.handles) handle_slots reference_slots l.ok l.numbers l.referred l.count l.i

abbrev pub ghost-add_stations : goal.ghost-add_stations
ghost-add_stations a = token_in

abbrev pub ghost-add_stations-2 : goal.ghost-add_stations-2
ghost-add_stations-2 a = client_in
