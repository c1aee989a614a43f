-- The words and the row are those of the station with nothing pending. Assumes nothing.
use Rattle.start.proofs.Dropping.{stream_dropped}
use Rattle.start.proofs.station.drop_stream.Goals as goal

pub returns : goal.returns
returns c = search stream_dropped
