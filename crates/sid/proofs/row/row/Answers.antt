-- sid::row::row meets its contract: the chunk of its number. Assumes nothing.
use Rattle.sid.proofs.Loops.{row_chunk}
use Rattle.sid.proofs.row.row.Goals as goal

pub returns : goal.returns
returns c = row_chunk c.args.rows.now c.args.i c.as_chunks.ensures.front c.requires.0 c.requires.1
