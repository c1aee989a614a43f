-- Request 8: how it ends. Assumes nothing.
use Prim.Native.Nat.{ℕ}
use mathlib.Core.Path.{◌≡◌, refl}
use mathlib.Core.Bool.{Bool, true, false}
use mathlib.Core.List.{List, []}
use Rattle.std.specs.Prelude.{Ok, Err, if◌then◌else◌}
use Rattle.rules.specs.Refusal.{bad_field}
use Rattle.rules.specs.Mask as mask
use Rattle.rules.specs.Handle as handles
use Rattle.rules.specs.Token.{Token, with_defaults, next_modified}
use Rattle.rules.specs.State as state
use Rattle.rules.specs.State.{State, change_token}
use Rattle.rules.specs.AdjustDefaults.{valid_defaults, adjusted_token, adjust}
use Rattle.rules.specs.Decision.{Decision, carried_out, need◌else◌then◌, success}
use Rattle.handle.specs.declared.Handle.{Handle}
use Rattle.state.specs.TokenCalls.{lent}
use Rattle.state.proofs.InPlace.{back, lent_dacl, back_dacl}
use Rattle.answer.specs.declared.Answer.TheVariants as answers
use Rattle.answer.specs.declared.refusal.Refusal.{Refusal}
use Rattle.answer.specs.declared.refusal.Refusal.TheVariants as refusal
use Rattle.decide.specs.declared.located.Located.{Located}
use Rattle.decide.specs.Carried.{ends, Carried}
use Rattle.decide.specs.Located.{LocatedBy}
use Rattle.decide.specs.Ending.{refused, becomes, token_after, served}
use Rattle.decide.proofs.Locating.{locating_refuses}
use Rattle.decide.proofs.RowEnding.{Rule, rows_end}
use Rattle.adjust_defaults.specs.Defaults.{defaults_ending, FieldsEnd}

module _ (owner group flag : ℕ) (bytes : List ℕ) where
  -- the rule, once the handle is found
  abbrev rest : State → handles.Handle → Token → Decision
  rest σ h t =
      need valid_defaults t owner group flag bytes else bad_field then
      success (change_token h.token (adjusted_token owner group flag bytes) σ) []

  rule : Rule rest (defaults_ending owner group flag bytes)
  unfolding carried_out change_token
  rule σ h = by (valid_defaults (state.token_of σ h.token) owner group flag bytes)
    where
      by : (b : Bool) → carried_out σ (need b else bad_field then success (change_token h.token (adjusted_token owner group flag bytes) σ) [])
          ≡ served σ (if b then becomes (adjusted_token owner group flag bytes (state.token_of σ h.token)) [] else refused refusal.BadField)
      by true = refl
      by false = refl

  number_kept : (t : Token) → (token_after t (defaults_ending owner group flag bytes t)).number ≡ t.number
  unfolding adjusted_token with_defaults next_modified
  number_kept t = by (valid_defaults t owner group flag bytes)
    where
      by : (b : Bool) → (token_after t (if b then becomes (adjusted_token owner group flag bytes t) [] else refused refusal.BadField)).number ≡ t.number
      by true = refl
      by false = refl

module _ {s n : ℕ} (owner group flag : ℕ) (bytes : List ℕ) {hs : List Handle} {cs ts ds : List ℕ} where
  pub no_handle_lem : {e : Refusal} → LocatedBy s n mask.adjust_default hs ts (Err e) → Carried (λ σ. adjust σ s n owner group flag bytes) ts ds hs cs ts ds cs (Err e)
  unfolding adjust
  no_handle_lem g = locating_refuses g (rest owner group flag bytes)

  module _ {x : Located} (g : LocatedBy s n mask.adjust_default hs ts (Ok x)) {ws bs : List ℕ} where
    pub adjusts : {u : Unit {0}} → FieldsEnd (defaults_ending owner group flag bytes) (lent x.slot ts) (lent_dacl x.slot ds) ws bs (Ok u)
        → Carried (λ σ. adjust σ s n owner group flag bytes) ts ds hs cs (back x.slot ws ts) (back_dacl x.slot bs ds) cs (Ok (ends answers.Done))
    unfolding adjust
    adjusts e = rows_end g (rest owner group flag bytes) (defaults_ending owner group flag bytes) (rule owner group flag bytes) (number_kept owner group flag bytes) e

    pub fields_refused : {k : Refusal} → FieldsEnd (defaults_ending owner group flag bytes) (lent x.slot ts) (lent_dacl x.slot ds) ws bs (Err k)
        → Carried (λ σ. adjust σ s n owner group flag bytes) ts ds hs cs (back x.slot ws ts) (back_dacl x.slot bs ds) cs (Err k)
    unfolding adjust
    fields_refused e =
        let c = rows_end g (rest owner group flag bytes) (defaults_ending owner group flag bytes) (rule owner group flag bytes) (number_kept owner group flag bytes) e in
        record { parts = c.parts; answer = c.answer; fit = c.fit }
