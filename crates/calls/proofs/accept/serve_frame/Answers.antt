-- The stream is empty when the body is served. Assumes nothing.
use Rattle.calls.proofs.Accepting.{held_cleared, frame_served}
use Rattle.calls.proofs.accept.serve_frame.Goals as goal

pub serve-reply-requires : goal.serve-reply-requires
serve-reply-requires c = (c.requires.0, held_cleared c.set_stream.ensures c.requires.1)

pub returns-clause-served : goal.returns-clause-served
returns-clause-served c = frame_served c.set_stream.ensures c.serve-reply.ensures.served c.clear.ensures
