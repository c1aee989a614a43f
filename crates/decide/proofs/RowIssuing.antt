-- A token that is issued by its rows, and how a request that issues one is decided. Assumes nothing.
use Prim.Native.Nat.{ℕ, ◌+◌}
use mathlib.Core.Path.{◌≡◌, refl, sym, ap, subst}
use mathlib.Core.Bool.{true}
use mathlib.Core.List.{List}
use lib.ListN.{get_or}
use Rattle.std.specs.Prelude.{Some, Ok}
use Rattle.rules.specs.Token.{Token}
use Rattle.rules.specs.Table.{added}
use Rattle.rules.specs.Valid.{valid}
use Rattle.rules.specs.State.{State, no_token, with_tokens, with_handles, add_token, add_handle}
use Rattle.rules.specs.Head as Head
use Rattle.rules.specs.Memory.{sections, head, token_row, dacl_row}
use Rattle.rules.specs.Decision.{Decision, carried_out, issued}
use Rattle.handle.specs.declared.Handle.{Handle}
use Rattle.control.proofs.Sections.{control_same}
use Rattle.state.specs.Parts.{HandlesIn}
use Rattle.state.specs.Formed.{Formed}
use Rattle.state.specs.TokenCalls.{RowAdded}
use Rattle.state.specs.HandleFacts.{changed, HandleAdded}
use Rattle.state.specs.ReleaseFacts.{PartsIn}
use Rattle.state.specs.declared.handles.Change.{Change}
use Rattle.state.proofs.FormedLaws.{valid_formed}
use Rattle.state.proofs.TokenFrames.{with_handles_lem}
use Rattle.answer.specs.declared.Answer.TheVariants as answers
use Rattle.answer.specs.Answer.{answer_of, Fit}
use Rattle.decide.specs.declared.outcome.Outcome.{Outcome}
use Rattle.decide.specs.Carried.{Carried}
use Rattle.decide.specs.Issue.{RowIssued}

number_in : (ws : List ℕ) (u : Token) → ws ≡ token_row u → get_or ws Head.number 0 ≡ u.number
unfolding token_row head
number_in ws u e = ap (λ (l : List ℕ). get_or l Head.number 0) e

module _ {s mask : ℕ} {ws bs : List ℕ} {hs : List Handle} {cs ts ds cs₁ ts' ds' cs' : List ℕ} {c : Change}
    (a : RowAdded ws bs ts ds cs ts' ds' cs₁) (h : HandleAdded s (get_or ws Head.number 0) mask hs cs₁ cs' c) where
  -- the state between has a token that may be of any form: the handles are the same as if only the next number had stepped
  abbrev stepped : State → State
  stepped σ = with_tokens (record { slots = σ.tokens.slots; next = σ.tokens.next + 1 }) σ

  stepped_formed : (σ : State) → Formed σ → Formed (stepped σ)
  unfolding with_tokens
  stepped_formed σ f = record { token_slots_long = f.token_slots_long; handle_slots_long = f.handle_slots_long; tokens = f.tokens; handles = f.handles; pairs = f.pairs }

  handles_after : (u : Token) (σ : State) → valid σ ≡ true → PartsIn σ ts ds hs cs → HandlesIn (add_handle s (get_or ws Head.number 0) mask (add_token u σ)) (changed hs (Some c))
  unfolding add_token with_tokens added add_handle with_handles sections
  handles_after u σ v p = record {
    records = (h.handles (stepped σ) (stepped_formed σ (valid_formed σ v)) (record { records = p.handles.records }) (control_same refl (a.control u σ p.control))).records;
  }

  pub row_issues : RowIssued s mask ws bs ts ds hs cs ts' ds' cs' (record { answer = answers.Value c.handle.number; change = Some c })
  unfolding add_token with_tokens add_handle
  row_issues = record {
    parts = λ u w b σ v p. subst (λ (k : ℕ). PartsIn (add_handle s k mask (add_token u σ)) ts' ds' (changed hs (Some c)) cs') (number_in ws u w) (record {
      handles = handles_after u σ v p;
      control = h.control (add_token u σ) (a.control u σ p.control);
      tokens = with_handles_lem (a.tokens u w b σ v p.tokens) _;
    });
    answer = λ σ j. ap answers.Value (h.number (add_token no_token σ) (a.control no_token σ j));
  }

-- ---- how a request that issues is decided

-- in the state before, or in the one where a used bit is set; u is the new token
pub record Ready (x : Decision) (s mask : ℕ) (u : Token) (ws bs ts ds : List ℕ) (hs : List Handle) (cs : List ℕ) (σ τ : State) : Type 0 where
  pub valid : valid τ ≡ true
  pub parts : PartsIn τ ts ds hs cs
  pub words : ws ≡ token_row u
  pub bytes : bs ≡ dacl_row u
  pub decided : carried_out σ x ≡ carried_out σ (issued s mask u τ)

pub ends_issuing : {x : State → Decision} {s mask : ℕ} {ws bs : List ℕ} {hs : List Handle} {cs ts ds cs₁ ts₁ ds₁ cs' ts' ds' : List ℕ} {r : Outcome} (u : State → Token) (τ : State → State)
    → RowIssued s mask ws bs ts₁ ds₁ hs cs₁ ts' ds' cs' r
    → ((σ : State) → valid σ ≡ true → PartsIn σ ts ds hs cs → Ready (x σ) s mask (u σ) ws bs ts₁ ds₁ hs cs₁ σ (τ σ))
    → Carried x ts ds hs cs ts' ds' cs' (Ok r)
unfolding carried_out issued
ends_issuing {ts' = ts'} {ds' = ds'} u τ i d = record {
  parts = λ σ v p. let k = d σ v p in rw k.decided (i.parts (u σ) k.words k.bytes (τ σ) k.valid k.parts);
  answer = λ σ v p. let k = d σ v p in rw k.decided (ap (answer_of ts' ds') (i.answer (τ σ) k.parts.control));
  fit = λ σ v p. let k = d σ v p in subst (Fit ts' ds') (sym (i.answer (τ σ) k.parts.control)) tt;
}
