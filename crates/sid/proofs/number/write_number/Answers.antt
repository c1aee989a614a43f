-- sid::number::write_number meets its contract: by what the words lack, else by what is written of the row. Assumes nothing.
use borrow.Author.Rules.{rules}
use mathlib.Core.Path.{sym}
use Rattle.sid.proofs.Numbers.{number_size, number_many, number_none, number_behind, number_wrote}
use Rattle.sid.proofs.number.write_number.Goals as goal

pub returns-in_err-sids : goal.returns-in_err-sids
returns-in_err-sids c = rw c.from_residual.ensures (search (rules, number_size, c.in_err-sids.ensures.cases))

pub returns-then-count : goal.returns-then-count
returns-then-count c = rw (sym c.in_ok-sids.ensures.cases.same) (search (rules, number_many))

pub returns-in_err-place : goal.returns-in_err-place
returns-in_err-place c = rw (c.from_residual-in_err-place.ensures, sym c.in_ok-sids.ensures.cases.same) (search (rules, number_none, c.in_err-place.ensures))

pub returns-then-count-place : goal.returns-then-count-place
returns-then-count-place c = rw (sym c.in_ok-sids.ensures.cases.same) (search (rules, number_behind, c.in_ok-place.ensures))

pub returns : goal.returns
returns c = rw (sym c.in_ok-sids.ensures.cases.same) (search (rules, number_wrote, c.in_ok-place.ensures, c.row.ensures))
