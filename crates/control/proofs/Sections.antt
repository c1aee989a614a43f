-- A section of the control words that hold a state, read and changed; and what a state's words do not depend on. Assumes nothing.
use Prim.Native.Nat.{ℕ, ◌+◌, ◌<◌}
use native.Mathlib.Nat.{zero-add}
use mathlib.Core.Path.{◌≡◌, refl, sym, ap, ◌∙◌, subst}
use mathlib.Core.List.{List}
use lib.ListN.{get_or, set}
use Rattle.table.specs.Sections.{Sectioned, section_word, section_set}
use Rattle.rules.specs.State.{State}
use Rattle.rules.specs.Memory.{counter_words, counter_section, control_sizes, counters, sections}
use Rattle.control.specs.Control.{ControlIn}
use Rattle.control.specs.Counters.{NextGiven, stepped, Stepped}

-- states with the same sections have the same words
pub control_same : {σ τ : State} {ws : List ℕ} → sections σ ≡ sections τ → ControlIn σ ws → ControlIn τ ws
control_same {ws = ws} e i = record { words = subst (λ xss. Sectioned control_sizes xss ws) e i.words }

-- ---- the next numbers

module _ {k : ℕ} {ws : List ℕ} (h : k < counter_words) where
  pub counter_word : (σ : State) → ControlIn σ ws → get_or ws k 0 ≡ get_or (counters σ) k 0
  unfolding sections
  counter_word σ i = ap (λ (j : ℕ). get_or ws j 0) (sym (zero-add k)) ∙ section_word i.words counter_section k 0 h

  pub next_given : NextGiven k ws (get_or ws k 0)
  next_given = record { word = refl; next = counter_word }

  pub steps : Stepped k ws (stepped k ws)
  unfolding sections
  steps = record {
    word = refl;
    control = λ σ τ e i. record {
      words =
          subst (λ xss. Sectioned control_sizes xss (stepped k ws))
          (ap (λ (n : ℕ). set (sections σ) counter_section (set (counters σ) k (n + 1))) (counter_word σ i) ∙ sym e)
          (rw (zero-add k) at (section_set i.words counter_section k (get_or ws k 0 + 1) h));
    };
  }
