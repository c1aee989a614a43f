-- What the parts of request 11 give, for every valid state that the parts hold. Assumes nothing.
use Rattle.std.specs.Prelude.{ℕ, ◌≡◌, Bool, true, ◌||◌, Option, None, Some, Result, List, eqb, if◌then◌else◌}
use Rattle.rules.specs.Privileges.{assign_primary_token, tcb}
use Rattle.rules.specs.Token.{Token, primary}
use Rattle.rules.specs.State.{State, token_of, caller, held, set_token, released}
use Rattle.rules.specs.Table.{lives}
use Rattle.rules.specs.Growth.{Mem}
use Rattle.rules.specs.Valid.{valid}
use Rattle.rules.specs.Install.{matches, marked}
use Rattle.handle.specs.declared.Handle.{Handle}
use Rattle.control.specs.Control.{ControlIn}
use Rattle.state.specs.Parts.{TokensIn}
use Rattle.state.specs.ReleaseFacts.{PartsIn}
use Rattle.answer.specs.declared.refusal.Refusal.{Refusal}
use Rattle.answer.specs.declared.refusal.Refusal.TheVariants as refusal
use Rattle.decide.specs.Lookup.{refused}

pub record Matching (token s : ℕ) (ts cs : List ℕ) (r : Bool) : Type 0 where
  pub same : (σ : State) → valid σ ≡ true → {ds : List ℕ} → TokensIn σ ts ds → ControlIn σ cs → r ≡ matches (token_of σ token) (caller σ s)

-- the first refusal, if any
abbrev pub first_refusal : (held primary allowed : Bool) → Option Refusal
first_refusal held primary allowed =
    if held then (if primary then (if allowed then None else Some refusal.InstallMismatch) else Some refusal.BadField) else Some refusal.PrivilegeNotHeld

pub record Checked (same : Bool) (token s : ℕ) (ts cs : List ℕ) (r : Result (Unit {0}) Refusal) : Type 0 where
  pub refusal : (σ : State) → valid σ ≡ true → {ds : List ℕ} → TokensIn σ ts ds → ControlIn σ cs
      → refused r ≡ first_refusal (held σ s assign_primary_token) (eqb (token_of σ token).identity.type primary) (same || held σ s tcb)

pub record MarksUsed (same : Bool) (s : ℕ) (ts cs ts' : List ℕ) : Type 0 where
  pub parts : (σ : State) → valid σ ≡ true → (t : Token) → same ≡ matches t (caller σ s) → {hs : List Handle} {ds : List ℕ} → PartsIn σ ts ds hs cs
      → PartsIn (marked s t σ) ts' ds hs cs

-- where the number is that of a live primary token
pub record Placed (same : Bool) (token s : ℕ) (ts ds : List ℕ) (hs : List Handle) (cs ts' ds' cs' : List ℕ) : Type 0 where
  pub parts : (σ : State) → valid σ ≡ true → PartsIn σ ts ds hs cs → same ≡ matches (token_of σ token) (caller σ s)
      → Mem (token_of σ token) (lives σ.tokens.slots) → (token_of σ token).number ≡ token → (token_of σ token).identity.type ≡ primary
      → PartsIn (released (set_token s token (marked s (token_of σ token) σ))) ts' ds' hs cs'
