-- valid::stations::stations_valid meets its contract: by whether all are idle, and if not its loop tests each row. Assumes nothing.
use borrow.Author.Rules.{rules}
use Rattle.token_rows.proofs.Pairs.{pair_tested, pairs_tested}
use Rattle.valid.proofs.StationRow.{all_idle_lem}
use Rattle.valid.proofs.stations.stations_valid.Goals as goal

pub returns-then-all_idle : goal.returns-then-all_idle
returns-then-all_idle c = search (rules, all_idle_lem)

pub loop-row-preserved : goal.loop-row-preserved
loop-row-preserved c = pair_tested _ _ _ _ _ _ _ _ _ c.next.new.self (search rules) (search rules) c.loop-row.yielded_by c.loop-row.invariant c.next.ensures.steps (c.in-Some.row, c.in-Some.bytes) c.in-Some.is c.station_valid-ok.ensures

pub returns : goal.returns
returns c = pairs_tested _ _ _ _ _ _ _ _ _ c.next.new.self (search rules) (search rules) c.loop-row.yielded_by c.loop-row.invariant c.next.ensures.steps c.in-None.is
