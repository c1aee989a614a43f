-- Request 18 changes nothing, and answers the condition's meaning. Assumes nothing.
use Prim.Native.Nat.{ℕ}
use native.Mathlib.Omega.{arith}
use mathlib.Core.Path.{◌≡◌, refl, ap, ap₂, ◌∙◌}
use mathlib.Core.Bool.{Bool, true, false, not, ◌&&◌, ◌||◌}
use mathlib.Core.List.{List, [], ◌∷◌}
use Rattle.std.specs.Prelude.{if◌then◌else◌}
use Rattle.rules.specs.Bits.{has}
use Rattle.rules.specs.Condition.{Condition, all_of, any_of, negated, privilege_enabled, group_enabled, Conditions, none, more, has_group, holds, all_hold, any_holds, known}
use Rattle.rules.specs.Decision.{carried_out, with_handle, need◌else◌then◌, success, Served}
use Rattle.rules.specs.Evaluate.{evaluate}
use Rattle.rules.specs.Evaluating.{evaluation, Evaluating}
use Rattle.rules.specs.Mask as Mask
use Rattle.rules.specs.Mask.{permits}
use Rattle.rules.specs.Number.{encode, Read}
use Rattle.rules.specs.Privileges.{is_enabled}
use Rattle.rules.specs.Refusal.{refusal, not_aLive_handle, right_missing, bad_field}
use Rattle.rules.specs.Request.{Request}
use Rattle.rules.specs.Run.{Serving, served_by}
use Rattle.rules.specs.Serve.{rule, decided, decision, serve}
use Rattle.rules.specs.State.{State, token_of, find_handle, handle_of}
use Rattle.rules.specs.Table.{is_live}
use Rattle.rules.specs.Token.{Token}
use Rattle.rules.proofs.Numbers.{encode_one}
use Rattle.rules.proofs.Steps.{Ends, ended}

-- a list of none
pub all_of_none : (t : Token) → holds t (all_of none) ≡ true
unfolding holds all_hold
all_of_none t = refl

pub any_of_none : (t : Token) → holds t (any_of none) ≡ false
unfolding holds any_holds
any_of_none t = refl

-- what a condition is asked of: the enabled privileges and the groups
module _ (t u : Token) (enabled : t.privileges.enabled ≡ u.privileges.enabled) (groups : t.groups ≡ u.groups) where
  mutual
    unfolding holds all_hold any_holds is_enabled

    pub holds_alike : (c : Condition) → holds t c ≡ holds u c
    holds_alike (all_of cs) = all_alike cs
    holds_alike (any_of cs) = any_alike cs
    holds_alike (negated c) = ap not (holds_alike c)
    holds_alike (privilege_enabled n) = ap (has n) enabled
    holds_alike (group_enabled sid) = ap (has_group sid) groups

    all_alike : (cs : Conditions) → all_hold t cs ≡ all_hold u cs
    all_alike none = refl
    all_alike (more c cs) = ap₂ ◌&&◌ (holds_alike c) (all_alike cs)

    any_alike : (cs : Conditions) → any_holds t cs ≡ any_holds u cs
    any_alike none = refl
    any_alike (more c cs) = ap₂ ◌||◌ (holds_alike c) (any_alike cs)

-- ---- one body

-- by each check in turn
answered : (σ : State) (a b k holds : Bool)
    → (carried_out σ (need a else not_aLive_handle then need b else right_missing then need k else bad_field then success σ (encode (if holds then 1 else 0)))).answer
    ≡ (if not a then 2 ∷ [] else if not b then 3 ∷ [] else if not k then 5 ∷ [] else 0 ∷ (if holds then 1 else 0) ∷ [])
unfolding carried_out refusal
answered σ true true true true = ap (λ (l : List ℕ). 0 ∷ l) (encode_one 1 (omega arith))
answered σ true true true false = ap (λ (l : List ℕ). 0 ∷ l) (encode_one 0 (omega arith))
answered σ true true false holds = refl
answered σ true false k holds = refl
answered σ false b k holds = refl

module _ (σ : State) (s n : ℕ) (c : Condition) where
  stays : (carried_out σ (evaluate σ s n c)).state ≡ σ
  unfolding evaluate with_handle Ends
  stays = ended (λ τ. τ ≡ σ) σ (evaluate σ s n c) refl (λ known may ok. refl)

  tells : (carried_out σ (evaluate σ s n c)).answer ≡ evaluation σ s n c
  unfolding evaluate with_handle evaluation
  tells = answered σ (is_live (find_handle σ s n)) (permits (handle_of σ s n).mask Mask.query) (known c) (holds (token_of σ (handle_of σ s n).token) c)

pub evaluated : (x : Serving) → Evaluating x
unfolding Evaluating served_by serve decision decided rule
evaluated x n c bytes e =
    let same : served_by x ≡ carried_out x.before (evaluate x.before x.station n c) = ap (λ (r : Read Request). carried_out x.before (decided x.before x.station r)) e in
    record {
      unchanged = ap (λ (r : Served). r.state) same ∙ stays x.before x.station n c;
      answer = ap (λ (r : Served). r.answer) same ∙ tells x.before x.station n c;
    }
