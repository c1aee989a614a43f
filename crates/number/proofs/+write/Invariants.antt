-- `write` meets its contract, by recursion on the number divided by 128. Assumes nothing.
use Rattle.number.proofs.+write.Given as goal

abbrev pub decreases-write : goal.decreases-write
decreases-write l = l.n
