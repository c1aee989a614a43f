-- Number by number. Assumes nothing.
use Rattle.std.proofs.Common.{ℕ, ◌∙◌, refl, rules}
use Rattle.std.proofs.lemmas.Iterator.Search.{all_from_yields_List}
use Rattle.std.proofs.lemmas.Iterator.Consumers.{YieldsList-from_first}
use Rattle.rules.specs.SidTable.{is_number}
use Rattle.copy.specs.Numbers.{numbers_left}
use Rattle.copy.proofs.AskedNumbers.{numbered, list_all_lem}
use Rattle.copy.proofs.asked.all_numbers.Goals as goal

pub returns-then-size : goal.returns-then-size
returns-then-size c = record {
  judged = λ sids l few.
      all_from_yields_List (is_number sids) _ _ _ c.all.ensures.ran (YieldsList-from_first (λ (x : ℕ). x) numbers_left _ refl) (λ x b q k. search (rules, numbered))
      ∙ list_all_lem (is_number sids) _;
}
