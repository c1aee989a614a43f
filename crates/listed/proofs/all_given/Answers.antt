-- listed::all_given meets its contract: its fold gathers what is stray. Assumes nothing.
use mathlib.Core.Path.{refl}
use borrow.Author.Rules.{rules}
use Rattle.lists.proofs.Loops.{folded}
use Rattle.token_rows.proofs.Groups.{lacks, or_lacks}
use Rattle.listed.specs.Tests.{given_test, stray_of}
use Rattle.listed.proofs.Listed.{stray_given}
use Rattle.listed.proofs.all_given.Goals as goal

pub returns : goal.returns
returns c = let l = c.args.last in folded (lacks 63) (given_test l) (or_lacks 63) (stray_of l) (stray_given l c.requires) c.args.s.now refl (search rules)
