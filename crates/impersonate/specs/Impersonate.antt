-- What the parts of requests 12 and 13 give, for every valid state that the parts hold. Assumes nothing.
use Rattle.std.specs.Prelude.{ℕ, ◌≤◌, min, ◌≡◌, Bool, true, not, ◌&&◌, ◌||◌, Option, None, Some, List, eqb, leb, if◌then◌else◌}
use Rattle.rules.specs.Basic.{implies}
use Rattle.rules.specs.Privileges as Privileges
use Rattle.rules.specs.Token.{Token, impersonation, identification, is_restricted}
use Rattle.rules.specs.State.{State, token_of, caller, held, set_client, released}
use Rattle.rules.specs.Table.{lives}
use Rattle.rules.specs.Growth.{Mem}
use Rattle.rules.specs.Valid.{valid}
use Rattle.rules.specs.Impersonate.{alike, marked}
use Rattle.handle.specs.declared.Handle.{Handle}
use Rattle.control.specs.Control.{ControlIn}
use Rattle.state.specs.Parts.{TokensIn}
use Rattle.state.specs.ReleaseFacts.{PartsIn, client}
use Rattle.answer.specs.declared.refusal.Refusal.{Refusal}
use Rattle.answer.specs.declared.refusal.Refusal.TheVariants as refusal
use Rattle.impersonate.specs.declared.Gate.{Gate}

-- ---- the gate, of a station and a client

pub record GateOf (σ : State) (s : ℕ) (t : Token) (g : Gate) : Type 0 where
  pub alike : g.alike ≡ alike (caller σ s) t
  pub held : g.held ≡ held σ s Privileges.impersonate
  pub barred : g.barred ≡ not (implies (is_restricted (caller σ s)) (is_restricted t))
  pub higher : g.higher ≡ not (leb t.identity.integrity (caller σ s).identity.integrity)

pub record GateRead (token s : ℕ) (ts cs : List ℕ) (g : Gate) : Type 0 where
  pub gate : (σ : State) → valid σ ≡ true → {ds : List ℕ} → TokensIn σ ts ds → ControlIn σ cs → GateOf σ s (token_of σ token) g

abbrev pub passed : Gate → Bool
passed g = g.alike || g.held

-- the first refusal, if any
abbrev pub first_refusal : Gate → (type : ℕ) → Option Refusal
first_refusal g type =
    if eqb type impersonation then (if passed g || not g.barred then None else Some refusal.RestrictedServer) else Some refusal.BadField

abbrev pub level_in_force : Gate → (own : ℕ) → ℕ
level_in_force g own = if passed g && not g.higher then own else min own identification

-- ---- the effect

pub record MarksUsed (g : Gate) (s : ℕ) (ts cs ts' : List ℕ) : Type 0 where
  pub parts : (σ : State) → valid σ ≡ true → (t : Token) → GateOf σ s t g → {hs : List Handle} {ds : List ℕ} → PartsIn σ ts ds hs cs
      → PartsIn (marked s t σ) ts' ds hs cs

-- where the number is that of a live impersonation token, and the level at most its own
pub record Acted (g : Gate) (token level s : ℕ) (ts ds : List ℕ) (hs : List Handle) (cs ts' ds' cs' : List ℕ) : Type 0 where
  pub parts : (σ : State) → valid σ ≡ true → PartsIn σ ts ds hs cs → GateOf σ s (token_of σ token) g
      → Mem (token_of σ token) (lives σ.tokens.slots) → (token_of σ token).number ≡ token → (token_of σ token).identity.type ≡ impersonation
      → level ≤ (token_of σ token).identity.level
      → PartsIn (released (set_client s (client token level) (marked s (token_of σ token) σ))) ts' ds' hs cs'
