-- Request 11, part by part and end by end: what the calls gave is what the rules decide. Assumes nothing.
use Prim.Native.Nat.{ℕ, ◌<◌}
use mathlib.Core.Path.{◌≡◌, refl, sym, ap, ap₂, ◌∙◌}
use mathlib.Core.Bool.{Bool, true, false, ◌&&◌, ◌||◌}
use mathlib.Core.List.{List, [], ◌∷◌}
use lib.Dec.{eqb}
use borrow.Author.Tests.{eqb-true}
use Rattle.std.specs.Prelude.{Option, None, Some, unwrap_or, Ok, Err}
use Rattle.rules.specs.Bits.{has}
use Rattle.rules.specs.Mask.{assign_primary}
use Rattle.rules.specs.Privileges.{assign_primary_token, tcb}
use Rattle.rules.specs.Refusal.{privilege_not_held, bad_field, install_mismatch}
use Rattle.rules.specs.Token as rules
use Rattle.rules.specs.Token.{primary}
use Rattle.rules.specs.Valid.{valid}
use Rattle.rules.specs.State as state
use Rattle.rules.specs.State.{State, station_count, caller, held, used, set_token, released}
use Rattle.rules.specs.Decision.{Decision, carried_out, need◌else◌then◌, success}
use Rattle.rules.specs.Install.{matches, marked, install}
use Rattle.rules.proofs.Facts.{valid_facts, facts_valid}
use Rattle.rules.proofs.Steps.{Is}
use Rattle.rules.proofs.Kept.{mark, marks, same_identity}
use Rattle.handle.specs.declared.Handle.{Handle}
use Rattle.token.specs.declared.Identity.{Identity}
use Rattle.control.specs.Stations.{CallerNumber}
use Rattle.state.specs.TokenCalls.{IdentityGiven, Used}
use Rattle.state.specs.ReleaseFacts.{PartsIn, Installed}
use Rattle.answer.specs.Refusal.{refusal_of}
use Rattle.answer.specs.declared.Answer.TheVariants as answers
use Rattle.answer.specs.declared.refusal.Refusal.{Refusal}
use Rattle.answer.specs.declared.refusal.Refusal.TheVariants as refusal
use Rattle.decide.specs.Carried.{ends, Carried}
use Rattle.decide.specs.Lookup.{LookedUp}
use Rattle.decide.proofs.Deciding.{stays, refuses, ends_with, used_parts}
use Rattle.decide.proofs.LookupLaws.{looked_up, looked_up_found, handle_refuses}
use Rattle.install.specs.Install.{Matching, first_refusal, Checked, MarksUsed, Placed}

-- ---- the checks

pub matching : {token s own : ℕ} {ts cs : List ℕ} {a b : Identity} → CallerNumber s cs own → IdentityGiven token ts a → IdentityGiven own ts b
    → Matching token s ts cs (eqb a.user b.user && eqb a.session b.session)
unfolding matches caller
matching {own = own} c f g = record {
  same = λ σ v i j.
      let p = f.identity σ v i in
      let q = g.identity σ v i ∙ ap (λ (n : ℕ). (state.token_of σ n).identity) (c.number σ j) in
      ap₂ (λ (x y : rules.Identity). eqb x.user y.user && eqb x.session y.session) p q;
}

-- ---- the used bits

module _ {same : Bool} {s : ℕ} {cs ts ts' : List ℕ} (a : Used assign_primary_token s ts cs ts') where
  pub marks_one : same ≡ true → MarksUsed same s ts cs ts'
  unfolding marked
  marks_one f = record { parts = λ σ v t e p. rw (sym e ∙ f) (used_parts σ v a p) }

  pub marks_both : same ≡ false → s < station_count → {ts'' : List ℕ} → Used tcb s ts' cs ts'' → MarksUsed same s ts cs ts''
  unfolding marked has
  marks_both f in8 b = record {
    parts = λ σ v t e p.
        let once = used assign_primary_token s σ in
        let ok : valid once ≡ true = facts_valid once (mark σ s assign_primary_token (valid_facts σ v) in8 refl).step.facts in
        rw (sym e ∙ f) (used_parts once ok b (used_parts σ v a p));
  }

-- ---- the effect: the marks leave the token what it was

pub placed : {same : Bool} {token s : ℕ} {hs : List Handle} {cs ts ds ts₁ cs' ts' ds' : List ℕ} → s < station_count
    → MarksUsed same s ts cs ts₁ → Installed s token ts₁ ds hs cs ts' ds' cs' → Placed same token s ts ds hs cs ts' ds' cs'
placed {token = token} {s = s} in8 u w = record {
  parts = λ σ v p e was number type.
      let f = valid_facts σ v in
      let new = state.token_of σ token in
      let τ = marked s new σ in
      let a = marks σ s new f in8 in
      let i : Is σ token = record { was = was; number = number } in
      let j = a.is token i in
      w.parts τ (facts_valid τ a.step.facts) (u.parts σ v new e p) (state.token_of τ token) j.was j.number
      (ap (λ (x : rules.Identity). x.type) (same_identity σ τ token f a.step i j) ∙ type);
}

-- ---- the decision

abbrev decide : (held primary allowed : Bool) (rest : Decision) → Decision
decide held primary allowed rest = need held else privilege_not_held then need primary else bad_field then need allowed else install_mismatch then rest

stops : (σ : State) (a b c : Bool) (rest : Decision) {e : Refusal} → Some e ≡ first_refusal a b c → carried_out σ (decide a b c rest) ≡ stays σ (refusal_of e)
unfolding carried_out
stops σ true true true rest f = cc
stops σ true true false rest f = ap (λ (o : Option Refusal). stays σ (refusal_of (unwrap_or o refusal.InstallMismatch))) (sym f)
stops σ true false c rest f = ap (λ (o : Option Refusal). stays σ (refusal_of (unwrap_or o refusal.BadField))) (sym f)
stops σ false b c rest f = ap (λ (o : Option Refusal). stays σ (refusal_of (unwrap_or o refusal.PrivilegeNotHeld))) (sym f)

passes : (σ : State) (a b c : Bool) (rest : Decision) → None ≡ first_refusal a b c → (carried_out σ (decide a b c rest) ≡ carried_out σ rest) × (b ≡ true)
unfolding carried_out
passes σ true true true rest e = (refl, refl)
passes σ true true false rest e = cc
passes σ true false c rest e = cc
passes σ false b c rest e = cc

module _ {s n : ℕ} {hs : List Handle} {cs ts ds : List ℕ} where
  pub no_handle_lem : {e : Refusal} → LookedUp s n assign_primary hs (Err e) → Carried (λ σ. install σ s n) ts ds hs cs ts ds cs (Err e)
  unfolding install
  no_handle_lem l = handle_refuses l _

  module _ {h : Handle} (l : LookedUp s n assign_primary hs (Ok h)) {same : Bool} (m : Matching h.token s ts cs same) where
    module _ (σ : State) (v : valid σ ≡ true) (p : PartsIn σ ts ds hs cs) where
      abbrev new : rules.Token
      new = state.token_of σ h.token

      abbrev after : State
      after = released (set_token s h.token (marked s new σ))

      decided : carried_out σ (install σ s n) ≡ carried_out σ (decide (held σ s assign_primary_token) (eqb new.identity.type primary) (same || held σ s tcb) (success after []))
      unfolding install
      decided = looked_up l σ v p.handles _ ∙ rw (m.same σ v p.tokens p.control)

    pub not_allowed : {e : Refusal} → Checked same h.token s ts cs (Err e) → Carried (λ σ. install σ s n) ts ds hs cs ts ds cs (Err e)
    not_allowed {e} c = refuses e (λ σ v p. decided σ v p ∙ stops σ _ _ _ _ (c.refusal σ v p.tokens p.control))

    module _ (c : Checked same h.token s ts cs (Ok tt)) where
      passed : (σ : State) (v : valid σ ≡ true) (p : PartsIn σ ts ds hs cs)
          → (carried_out σ (install σ s n) ≡ record { state = after σ v p; answer = 0 ∷ [] }) × (eqb (new σ v p).identity.type primary ≡ true)
      unfolding carried_out
      passed σ v p =
          let q = passes σ (held σ s assign_primary_token) (eqb (new σ v p).identity.type primary) (same || held σ s tcb) (success (after σ v p) []) (c.refusal σ v p.tokens p.control) in
          (decided σ v p ∙ q.0, q.1)

      pub installed : {cs' ts' ds' : List ℕ} → Placed same h.token s ts ds hs cs ts' ds' cs' → Carried (λ σ. install σ s n) ts ds hs cs ts' ds' cs' (Ok (ends answers.Done))
      installed w = ends_with answers.Done (λ σ v p. tt)
          (λ σ v p.
          let i = (looked_up_found l σ v p.handles).token in
          rw (passed σ v p).0 (w.parts σ v p (m.same σ v p.tokens p.control) i.was i.number (eqb-true (new σ v p).identity.type primary (passed σ v p).1)))
          (λ σ v p. rw (passed σ v p).0)
