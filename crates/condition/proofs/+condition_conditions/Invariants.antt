-- A condition calls conditions one less deep, and those call one as deep as themselves: the measures are twice the depth left, and one more
-- for a list. Assumes nothing.
use Rattle.std.proofs.Common.{◌≡◌, ◌+◌, ◌-◌, ◌*◌}
use Rattle.number.specs.Reader.{rest_of}
use Rattle.condition.specs.Told.{asked, tell, list_outcome, counted}
use Rattle.condition.proofs.Telling.{Rest}
use Rattle.condition.proofs.+condition_conditions.Given as goal

abbrev pub decreases-condition : goal.decreases-condition
decreases-condition l = 2 * l.depth

abbrev pub decreases-conditions : goal.decreases-conditions
decreases-conditions l = 2 * l.depth + 1

-- what the conditions left come to, with what is told so far, is what all of them come to
abbrev pub invariant-conditions-loop : goal.invariant-conditions-loop
invariant-conditions-loop l =
    Rest l.all (asked l.token) l.depth (l.count - l.counter) (rest_of l.r.rest) (record { value = l.value; known = l.r.known })
    ≡ tell l.fn.r.known (list_outcome l.all (asked l.token)) (counted l.depth (rest_of l.fn.r.rest))
