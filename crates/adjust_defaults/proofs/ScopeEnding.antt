-- Request 7: how it ends. Assumes nothing.
use Prim.Native.Nat.{ℕ, ◌≤◌, ◌<◌}
use mathlib.Core.Path.{◌≡◌, refl, sym, ◌∙◌}
use mathlib.Core.Bool.{Bool, true, false, not}
use mathlib.Core.List.{List, []}
use borrow.Author.Tests.{not-false}
use Rattle.std.specs.Prelude.{Ok, Err}
use Rattle.rules.specs.Bits.{has}
use Rattle.rules.specs.Mask.{adjust_scope}
use Rattle.rules.specs.Refusal.{privilege_not_held}
use Rattle.rules.specs.Privileges.{tcb}
use Rattle.rules.specs.Handle as rules
use Rattle.rules.specs.Token as Rules
use Rattle.rules.specs.Token.{with_scope, next_modified}
use Rattle.rules.specs.Valid.{valid}
use Rattle.rules.specs.State.{State, token_slots, station_count, held, used, put_token, change_token}
use Rattle.rules.specs.AdjustScope.{scope, scoped_token}
use Rattle.rules.specs.Decision.{Decision, carried_out, need◌else◌then◌, success}
use Rattle.rules.proofs.Facts.{valid_facts, facts_valid}
use Rattle.rules.proofs.Kept.{mark}
use Rattle.handle.specs.declared.Handle.{Handle}
use Rattle.token.specs.Row.{Becomes}
use Rattle.state.specs.TokenCalls.{FoundAt, lent, WordsChanged, Held, Used}
use Rattle.state.proofs.InPlace.{back, words_changed, words_unchanged}
use Rattle.state.specs.ReleaseFacts.{PartsIn}
use Rattle.state.proofs.TokenFrames.{with_slots_lem, with_tokens_lem, used_control, used_handles}
use Rattle.answer.specs.declared.Answer.TheVariants as answers
use Rattle.answer.specs.declared.refusal.Refusal.{Refusal}
use Rattle.answer.specs.declared.refusal.Refusal.TheVariants as refusal
use Rattle.decide.specs.Carried.{ends, Carried}
use Rattle.decide.specs.Lookup.{LookedUp}
use Rattle.decide.proofs.Deciding.{refuses, ends_with, fails}
use Rattle.decide.proofs.LookupLaws.{looked_up, handle_refuses}
use Rattle.adjust_defaults.specs.Scope.{ScopeApplied}

-- ---- the effect

pub rescoped : (v : ℕ) {ws ws₁ ws₂ : List ℕ} → Becomes (with_scope v) ws ws₁ → Becomes next_modified ws₁ ws₂ → Becomes (scoped_token v) ws ws₂
unfolding scoped_token
rescoped v a b = record { row = λ t e. b.row (with_scope v t) (a.row t e) }

module _ {n i : ℕ} (v : ℕ) {ts : List ℕ} (at : FoundAt n ts i) where
  pub scope_set : {ws : List ℕ} → i < token_slots → Becomes (scoped_token v) (lent i ts) ws → WordsChanged n (scoped_token v) ts (back i ws ts)
  unfolding scoped_token with_scope next_modified
  scope_set l b = words_changed at (scoped_token v) (λ t. refl) (λ t. refl) l (λ t w e. b.row t e)

  pub scope_nowhere : token_slots ≤ i → WordsChanged n (scoped_token v) ts ts
  unfolding scoped_token with_scope next_modified
  scope_nowhere l = words_unchanged at (scoped_token v) (λ t. refl) l

pub scope_applied : {s n v : ℕ} {cs ts ts₁ ts₂ : List ℕ} → s < station_count → Used tcb s ts cs ts₁ → WordsChanged n (scoped_token v) ts₁ ts₂ → ScopeApplied s n v ts cs ts₂
unfolding has
scope_applied {s = s} in8 m c = record {
  tokens = λ σ w i j.
      let marked = mark σ s tcb (valid_facts σ w) in8 refl in
      c.tokens (used tcb s σ) (facts_valid (used tcb s σ) marked.step.facts) (m.tokens σ w i j);
}

-- ---- the decision

-- the rule, once the handle is found
abbrev go : ℕ → ℕ → State → rules.Handle → Rules.Token → Decision
go s v σ h t = need held σ s tcb else privilege_not_held then success (change_token h.token (scoped_token v) (used tcb s σ)) []

module _ {s n : ℕ} (v : ℕ) {hs : List Handle} {cs ts ds : List ℕ} where
  pub scope_handle_refused : {e : Refusal} → LookedUp s n adjust_scope hs (Err e) → Carried (λ σ. scope σ s n v) ts ds hs cs ts ds cs (Err e)
  unfolding scope
  scope_handle_refused l = handle_refuses l (go s v)

  module _ {h : Handle} (l : LookedUp s n adjust_scope hs (Ok h)) {b : Bool} (is : Held tcb s ts cs b) where
    decided : (σ : State) → valid σ ≡ true → PartsIn σ ts ds hs cs
        → carried_out σ (scope σ s n v) ≡ carried_out σ (need b else privilege_not_held then success (change_token h.token (scoped_token v) (used tcb s σ)) [])
    unfolding scope
    decided σ w p = looked_up l σ w p.handles (go s v σ) ∙ rw (sym (is.held σ w p.tokens p.control))

    pub scope_not_held : not b ≡ true → Carried (λ σ. scope σ s n v) ts ds hs cs ts ds cs (Err refusal.PrivilegeNotHeld)
    scope_not_held f = refuses refusal.PrivilegeNotHeld (λ σ w p. decided σ w p ∙ fails b σ privilege_not_held _ f)

    pub scope_changes : {ts' : List ℕ} → not b ≡ false → ScopeApplied s h.token v ts cs ts' → Carried (λ σ. scope σ s n v) ts ds hs cs ts' ds cs (Ok (ends answers.Done))
    unfolding carried_out change_token put_token
    scope_changes f c = ends_with answers.Done (λ σ w p. tt)
        (λ σ w p. rw (decided σ w p, not-false b f) (record {
          handles = with_tokens_lem (used_handles p.handles tcb s) _;
          control = with_slots_lem (used_control p.control tcb s) _;
          tokens = c.tokens σ w p.tokens p.control;
        }))
        (λ σ w p. rw (decided σ w p, not-false b f))
