-- `size` meets its contract, by recursion on the number divided by 128. Assumes nothing.
use Rattle.number.proofs.+size.Given as goal

abbrev pub decreases-size : goal.decreases-size
decreases-size l = l.n
