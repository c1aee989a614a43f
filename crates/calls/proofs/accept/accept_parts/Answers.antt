-- The station's row is lent and comes back, and so do the parts. Assumes nothing.
use mathlib.Core.Path.{sym}
use Rattle.calls.proofs.Accepting.{lent_long, row_held, accepts}
use Rattle.calls.proofs.accept.accept_parts.Goals as goal

pub accept_row-requires : goal.accept_row-requires
accept_row-requires c = let p = c.requires in (p.1, search lent_long, row_held _ _ _ _ _ _ c.args.station.known p.0)

pub returns : goal.returns
returns c =
    let n = c.accept_row.ensures.same in
    rw (c.tokens-1.given.1 (sym n.1), c.dacls-1.given.1 (sym n.2), c.control-1.given.1 (sym n.3)) (accepts _ _ _ _ _ _ c.args.station.known c.requires.0 c.accept_row.ensures.fed)
