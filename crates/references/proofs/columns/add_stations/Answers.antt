-- references::columns::add_stations meets its contract: its loop writes a token more. Assumes nothing.
use Rattle.references.proofs.Lists.{adding_more, adding_done}
use Rattle.references.proofs.columns.add_stations.Goals as goal

pub loop-i-preserved : goal.loop-i-preserved
loop-i-preserved g c = adding_more g.f c.args.n _ _ c.station_rows-row-items.ensures c.loop-i.invariant c.loop-i-test.true (c.requires.1.1.1 _ _ c.token.ensures)

pub returns : goal.returns
returns g c = adding_done g.f c.args.n _ _ c.station_rows-row-items.ensures c.loop-i.invariant c.loop-i-test.false
