-- sid::packed::size_of meets its contract: by what the bytes lack. Assumes nothing.
use borrow.Author.Rules.{rules}
use Rattle.sid.proofs.Reading.{size_short, size_revision, size_count, size_cut, size_whole}
use Rattle.sid.proofs.packed.size_of.Goals as goal

pub returns-then-bytes-lt-HEADER : goal.returns-then-bytes-lt-HEADER
returns-then-bytes-lt-HEADER c = search (rules, size_short)

pub returns-then-bytes-ne1 : goal.returns-then-bytes-ne1
returns-then-bytes-ne1 c = search (rules, size_revision)

pub returns-then-n-gt-MAX_SUBS : goal.returns-then-n-gt-MAX_SUBS
returns-then-n-gt-MAX_SUBS c = search (rules, size_count)

pub returns-then-bytes-size : goal.returns-then-bytes-size
returns-then-bytes-size c = search (rules, size_cut)

pub returns : goal.returns
returns c = search (rules, size_whole)
