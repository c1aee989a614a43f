-- By the stream's mark, then by what the chunk came to. Assumes nothing.
use borrow.Author.Rules.{rules}
use Rattle.calls.proofs.Accepting.{count_short, chunk_eaten, part_fed, broken_fed, chunk_serves}
use Rattle.calls.proofs.accept.accept_row.Goals as goal

pub returns-then-before-clause-fed : goal.returns-then-before-clause-fed
returns-then-before-clause-fed c = chunk_eaten _ _ _ c.args.station.known c.stream_of-before.ensures c.if-before.true c.unanswered.ensures

pub join-stop-requires : goal.join-stop-requires
join-stop-requires c = let p = c.requires in (p.1, count_short p.2 _ c.args.station.known c.stream_of-before.ensures)

pub returns-in-Part-clause-fed : goal.returns-in-Part-clause-fed
returns-in-Part-clause-fed c =
    part_fed _ _ _ c.args.station.known c.stream_of-before.ensures c.if-before.false _ c.join-stop.ensures c.row-1.given c.in-Part.is (search rules) (search rules) (search rules) (search rules) (search rules)

pub returns-in-Broken-clause-fed : goal.returns-in-Broken-clause-fed
returns-in-Broken-clause-fed c =
    broken_fed _ _ _ c.args.station.known c.stream_of-before.ensures c.if-before.false _ c.join-stop.ensures c.row-1.given c.in-Broken.is (search rules) (search rules) (search rules)

pub returns-in-Whole-clause-fed : goal.returns-in-Whole-clause-fed
returns-in-Whole-clause-fed c = chunk_serves _ _ _ c.args.station.known c.stream_of-before.ensures c.if-before.false _ c.join-stop.ensures c.row-1.given _ c.in-Whole.is c.serve_frame.ensures.served
