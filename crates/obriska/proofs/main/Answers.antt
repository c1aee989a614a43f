-- `main` is safe and ends; it runs on the start's memory. Assumes nothing.
use borrow.Author.Rules.{rules}
use Rattle.obriska.proofs.Beginning.{ready}
use Rattle.obriska.proofs.main.Goals as goal

pub run-requires : goal.run-requires
run-requires c = search (rules, ready)
