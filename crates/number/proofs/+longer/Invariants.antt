-- `longer` meets its contract, by recursion on the limit divided by 128. Assumes nothing.
use Rattle.number.proofs.+longer.Given as goal

abbrev pub decreases-longer : goal.decreases-longer
decreases-longer l = l.limit
