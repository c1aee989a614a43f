-- The length, and the bytes that stand there. Assumes nothing.
use borrow.Author.Rules.{rules}
use Rattle.adjust_defaults.proofs.DefaultDacl.{bytes_written}
use Rattle.adjust_defaults.proofs.default_dacl.write.Goals as goal

pub returns : goal.returns
returns c = search (rules, bytes_written)
