-- valid::stations::stream_valid meets its contract: by its number of pending bytes. Assumes nothing.
use borrow.Author.Rules.{rules}
use Rattle.valid.proofs.StationRow.{stream_idle, too_long, stream_part}
use Rattle.valid.proofs.stations.stream_valid.Goals as goal

pub returns-then-count-eq0 : goal.returns-then-count-eq0
returns-then-count-eq0 c = search (rules, stream_idle)

pub returns-then-count : goal.returns-then-count
returns-then-count c = search (rules, too_long)

pub returns : goal.returns
returns c = let a = c.args in search (rules, stream_part a.words.now a.bytes.now c.fits-bytes)
