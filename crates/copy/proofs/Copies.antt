-- Requests 9 and 10: a copy of the token that a handle is on. Assumes nothing.
use Prim.Native.Nat.{ℕ, ◌<◌}
use mathlib.Core.Path.{◌≡◌, refl, sym, ap, ◌∙◌}
use mathlib.Core.Bool.{true}
use mathlib.Core.List.{List}
use Rattle.std.specs.Prelude.{Result, Ok}
use Rattle.table.specs.Table.{nth_record}
use Rattle.rules.specs.Token as rules
use Rattle.rules.specs.Token.{max_dacl}
use Rattle.rules.specs.Handle as rules-handle
use Rattle.rules.specs.State as state
use Rattle.rules.specs.State.{State, token_slots}
use Rattle.rules.specs.Valid.{token_valid}
use Rattle.rules.specs.Memory.{token_words, token_counter, token_row, dacl_row}
use Rattle.rules.specs.Decision.{Decision, carried_out, with_handle}
use Rattle.handle.specs.declared.Handle.{Handle}
use Rattle.handle.specs.Meaning.{handle_of}
use Rattle.control.specs.Counters.{NextGiven}
use Rattle.state.proofs.InPlace.{in_slot}
use Rattle.decide.specs.declared.located.Located.{Located}
use Rattle.answer.specs.declared.refusal.Refusal.{Refusal}
use Rattle.decide.specs.declared.outcome.Outcome.{Outcome}
use Rattle.decide.specs.Carried.{Carried}
use Rattle.decide.specs.Issue.{RowIssued}
use Rattle.decide.specs.Located.{LocatedBy}
use Rattle.decide.proofs.Deciding.{carried_as}
use Rattle.decide.proofs.LookupLaws.{goes_on}
use Rattle.decide.proofs.RowIssuing.{ends_issuing}
use Rattle.copy.specs.Copies.{CopyIssued}

-- ws and bs are the rows of what f makes of the token in slot i
pub issues_made : (f : ℕ → rules.Token → rules.Token) {n i s mask : ℕ} {ws bs : List ℕ} {hs : List Handle} {cs ts ds cs' ts' ds' : List ℕ} {r : Outcome}
    → i < token_slots → NextGiven token_counter cs n
    → ((t : rules.Token) → token_valid t ≡ true → nth_record token_words i ts ≡ token_row t → ws ≡ token_row (f n t))
    → ((t : rules.Token) → nth_record max_dacl i ds ≡ dacl_row t → bs ≡ dacl_row (f n t))
    → RowIssued s mask ws bs ts ds hs cs ts' ds' cs' r → CopyIssued f i s mask ts ds hs cs ts' ds' cs' r
issues_made f l k w b e = record {
  carried = λ j at. ends_issuing (λ σ. f σ.tokens.next (state.token_of σ j)) (λ σ. σ) e (λ σ v p.
      let t = state.token_of σ j in
      let there = in_slot j at v p.tokens l in
      record {
        valid = v;
        parts = p;
        words = w t there.is_valid there.words ∙ ap (λ (m : ℕ). token_row (f m t)) (k.next σ p.control);
        bytes = b t there.bytes ∙ ap (λ (m : ℕ). dacl_row (f m t)) (k.next σ p.control);
        decided = refl;
      });
}

-- a request on the handle that was located, and its token
module _ {s n right : ℕ} {hs : List Handle} {ts : List ℕ} {x : Located} (g : LocatedBy s n right hs ts (Ok x)) where
  pub on_located : (go : State → rules-handle.Handle → rules.Token → Decision) → {cs ds cs' ts' ds' : List ℕ} {r : Result Outcome Refusal}
      → Carried (λ σ. go σ (handle_of x.handle) (state.token_of σ x.handle.token)) ts ds hs cs ts' ds' cs' r
      → Carried (λ σ. with_handle σ s n right (go σ)) ts ds hs cs ts' ds' cs' r
  on_located go c = carried_as (λ σ v p.
      goes_on σ s n right (go σ) (g.refusal σ v p.handles p.tokens)
      ∙ ap (λ (h : rules-handle.Handle). carried_out σ (go σ h (state.token_of σ h.token))) (sym (g.there.handle σ v p.handles))) c
