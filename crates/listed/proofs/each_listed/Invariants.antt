-- listed::each_listed meets its contract: its loop tests each word. Assumes nothing.
use Rattle.lists.proofs.Loops.{Tested}
use Rattle.listed.specs.Tests.{word_test}
use Rattle.listed.proofs.each_listed.Given as goal

abbrev pub invariant-loop-w : goal.invariant-loop-w
invariant-loop-w l = Tested (word_test l.last) 0 l.s l.ok l.w-index
