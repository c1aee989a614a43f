-- sid::valid::all_below meets its contract: its fold tests each word. Assumes nothing.
use borrow.Author.Rules.{rules}
use denote.Ref.{Bor}
use Rattle.std.proofs.lemmas.Fn.{fold_over, slice_gives, fronts}
use Rattle.std.proofs.Common.{◌≡◌, refl, ap, ◌∙◌, ℕ, List, Bool, true}
use Rattle.std.specs.Slice.Iter.{iter_rest}
use Rattle.rules.specs.Basic.{all, is_below}
use Rattle.sid.proofs.Loops.{all_below_more}
use Rattle.sid.proofs.valid.all_below.Goals as goal

pub returns : goal.returns
unfolding all
returns c =
    fold_over fronts (λ (y : Bor ℕ). y.now) _ (λ (ys : List ℕ) (ok : Bool). ok ≡ all (is_below c.args.n) ys) _
    (λ ys a x b f' j k. (all_below_more c.args.n ys x.now j (search rules), search rules))
    c.iter.result (iter_rest c.iter.result) true c.fold.result (slice_gives c.iter.result) refl c.fold.ensures.ran
    ∙ ap (all (is_below c.args.n)) c.iter.ensures.rest
