-- The place tells the number, where there is room. Assumes nothing.
use borrow.Author.Rules.{rules}
use native.Mathlib.Omega.{arith}
use Prim.Native.Nat.{◌<◌}
use Rattle.rules.specs.SidTable.{max_sids}
use Rattle.sid.proofs.Entered.{entered_place}
use Rattle.given.proofs.Entering.{given_some, given_none}
use Rattle.given.proofs.enter.Goals as goal

pub returns-in_err-place : goal.returns-in_err-place
returns-in_err-place c = rw c.from_residual.ensures (search (rules, given_none, c.in_err-place.ensures))

pub number_at-requires : goal.number_at-requires
number_at-requires c = let h : c.in_ok-place.place < max_sids = entered_place c.requires.0 c.in_ok-place.ensures in omega arith

pub returns : goal.returns
returns c = search (rules, given_some, c.in_ok-place.ensures)
