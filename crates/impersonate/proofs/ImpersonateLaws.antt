-- Requests 12 and 13, part by part and end by end: what the calls gave is what the rules decide. Assumes nothing.
use Prim.Native.Nat.{ℕ, ◌<◌, min}
use mathlib.Core.Path.{◌≡◌, refl, sym, ap, ap₂, ◌∙◌}
use mathlib.Core.Bool.{Bool, true, false, not, ◌&&◌, ◌||◌, beq}
use mathlib.Core.Logic.{inl, inr}
use mathlib.Core.List.{List, [], ◌∷◌}
use lib.Dec.{eqb, leb, ltb}
use borrow.Author.Tests.{eqb-true, leb-true, leb-false, lt-ltb, le-ltb}
use Rattle.std.specs.Prelude.{Option, None, Some, unwrap_or, Ok, Err, if◌then◌else◌}
use Rattle.rules.specs.Basic.{implies, both_or_neither}
use Rattle.rules.specs.Number.{encode, encode_all}
use Rattle.rules.specs.Mask as Mask
use Rattle.rules.specs.Privileges as Privileges
use Rattle.rules.specs.Refusal.{bad_field, restricted_server}
use Rattle.rules.specs.Token as rules
use Rattle.rules.specs.Token.{impersonation, identification, is_restricted}
use Rattle.rules.specs.Growth.{Live}
use Rattle.rules.specs.Station as stations
use Rattle.rules.specs.Station.{no_client}
use Rattle.rules.specs.Valid.{valid}
use Rattle.rules.specs.State as state
use Rattle.rules.specs.State.{State, station_count, caller, client_at, set_client, released}
use Rattle.rules.specs.Decision.{Decision, carried_out, need◌else◌then◌, success}
use Rattle.rules.specs.Impersonate.{alike, passes, may_act, in_force, marked, impersonate, revert}
use Rattle.rules.proofs.Facts.{valid_facts, facts_valid}
use Rattle.rules.proofs.Steps.{Is}
use Rattle.rules.proofs.Kept.{client_marks, in_force_lem, same_identity}
use Rattle.handle.specs.declared.Handle.{Handle}
use Rattle.token.specs.declared.Identity.{Identity}
use Rattle.token.specs.Meaning.{identity_of}
use Rattle.control.specs.Stations.{CallerNumber, ClientGiven}
use Rattle.control.specs.declared.stations.Client.{Client}
use Rattle.state.specs.TokenCalls.{IdentityGiven, RestrictedGiven, Held, Used}
use Rattle.state.specs.ReleaseFacts.{PartsIn, client, ActsFrom}
use Rattle.answer.specs.Refusal.{refusal_of}
use Rattle.answer.specs.declared.Answer.TheVariants as answers
use Rattle.answer.specs.declared.refusal.Refusal.{Refusal}
use Rattle.answer.specs.declared.refusal.Refusal.TheVariants as refusal
use Rattle.decide.specs.Carried.{ends, Carried}
use Rattle.decide.specs.Lookup.{LookedUp}
use Rattle.decide.proofs.Deciding.{stays, refuses, ends_with, used_parts}
use Rattle.decide.proofs.LookupLaws.{looked_up, looked_up_found, handle_refuses}
use Rattle.impersonate.specs.declared.Gate.{Gate}
use Rattle.impersonate.specs.Impersonate.{GateOf, GateRead, passed, first_refusal, level_in_force, MarksUsed, Acted}

-- ---- the gate

same_test : (x y : Bool) → beq x y ≡ both_or_neither x y
unfolding both_or_neither
same_test true true = refl
same_test true false = refl
same_test false true = refl
same_test false false = refl

barred_test : (x y : Bool) → (x && not y) ≡ not (implies x y)
unfolding implies
barred_test true y = refl
barred_test false y = refl

above_test : (m n : ℕ) (t : Bool) → leb n m ≡ t → ltb m n ≡ not t
above_test m n true e = le-ltb m n (leb-true n m e)
above_test m n false e = lt-ltb m n (leb-false n m e)

pub gate_read : {token s own : ℕ} {ts cs : List ℕ} {a b : Identity} {x y h : Bool} → CallerNumber s cs own → IdentityGiven own ts a → IdentityGiven token ts b
    → RestrictedGiven own ts x → RestrictedGiven token ts y → Held Privileges.impersonate s ts cs h
    → GateRead token s ts cs (record { alike = eqb a.user b.user && beq x y; held = h; barred = x && not y; higher = ltb a.integrity b.integrity })
unfolding alike caller
gate_read {a = a} {b} {x} {y} c f g p q h = record {
  gate = λ σ v i j.
      let number = c.number σ j in
      let server = f.identity σ v i ∙ ap (λ (n : ℕ). (state.token_of σ n).identity) number in
      let other = g.identity σ v i in
      let restricted = p.restricted σ v i ∙ ap (λ (n : ℕ). is_restricted (state.token_of σ n)) number in
      record {
        alike =
            ap₂ ◌&&◌ (ap₂ (λ (u w : rules.Identity). eqb u.user w.user) server other)
            (same_test x y ∙ ap₂ both_or_neither restricted (q.restricted σ v i));
        held = h.held σ v i j;
        barred = barred_test x y ∙ ap₂ (λ (u w : Bool). not (implies u w)) restricted (q.restricted σ v i);
        higher =
            above_test a.integrity b.integrity _ refl
            ∙ ap₂ (λ (u w : rules.Identity). not (leb w.integrity u.integrity)) server other;
      };
}

-- ---- the effect: the mark leaves the token what it was

needed : {g : Gate} {σ : State} {s : ℕ} {t : rules.Token} → GateOf σ s t g
    → (not (alike (caller σ s) t) && state.held σ s Privileges.impersonate) ≡ (not g.alike && g.held)
needed k = sym (ap₂ (λ (x y : Bool). not x && y) k.alike k.held)

module _ {g : Gate} {s : ℕ} {cs ts : List ℕ} where
  pub marks : (not g.alike && g.held) ≡ true → {ts' : List ℕ} → Used Privileges.impersonate s ts cs ts' → MarksUsed g s ts cs ts'
  unfolding marked
  marks e u = record { parts = λ σ v t k p. rw (needed k ∙ e) (used_parts σ v u p) }

  pub marks_none : (not g.alike && g.held) ≡ false → MarksUsed g s ts cs ts
  unfolding marked
  marks_none e = record { parts = λ σ v t k p. rw (needed k ∙ e) p }

pub acted : {g : Gate} {token level s : ℕ} {hs : List Handle} {cs ts ds ts₁ cs' ts' ds' : List ℕ} → s < station_count
    → MarksUsed g s ts cs ts₁ → ActsFrom s token level ts₁ ds hs cs ts' ds' cs' → Acted g token level s ts ds hs cs ts' ds' cs'
unfolding Live
acted {token = token} {level} {s} in8 u w = record {
  parts = λ σ v p k was number type at_most.
      let f = valid_facts σ v in
      let t = state.token_of σ token in
      let τ = marked s t σ in
      let m = client_marks σ s t f in8 in
      let i : Is σ token = record { was = was; number = number } in
      let j = m.is token i in
      let same = same_identity σ τ token f m.step i j in
      w.parts τ (facts_valid τ m.step.facts) (u.parts σ v t k p) (inr (record {
        token = state.token_of τ token;
        live = j.was;
        number = j.number;
        type = ap (λ (x : rules.Identity). x.type) same ∙ type;
        level = rw same at_most;
      }));
}

-- ---- the decision

abbrev decide : (type allowed : Bool) (rest : Decision) → Decision
decide type allowed rest = need type else bad_field then need allowed else restricted_server then rest

abbrev first : (type allowed : Bool) → Option Refusal
first type allowed = if type then (if allowed then None else Some refusal.RestrictedServer) else Some refusal.BadField

stops : (σ : State) (a b : Bool) (rest : Decision) {e : Refusal} → Some e ≡ first a b → carried_out σ (decide a b rest) ≡ stays σ (refusal_of e)
unfolding carried_out
stops σ true true rest f = cc
stops σ true false rest f = ap (λ (o : Option Refusal). stays σ (refusal_of (unwrap_or o refusal.RestrictedServer))) (sym f)
stops σ false b rest f = ap (λ (o : Option Refusal). stays σ (refusal_of (unwrap_or o refusal.BadField))) (sym f)

goes_on : (σ : State) (a b : Bool) (rest : Decision) → None ≡ first a b → (carried_out σ (decide a b rest) ≡ carried_out σ rest) × (a ≡ true)
unfolding carried_out
goes_on σ true true rest e = (refl, refl)
goes_on σ true false rest e = cc
goes_on σ false b rest e = cc

not_twice : (b : Bool) → not (not b) ≡ b
not_twice true = refl
not_twice false = refl

abbrev typed : Identity → Bool
typed a = eqb a.kind impersonation

abbrev allowed : Gate → Bool
allowed g = passed g || not g.barred

-- what the rules ask, by the gate
module _ {σ : State} {s : ℕ} {t : rules.Token} {g : Gate} (k : GateOf σ s t g) where
  gate_passes : passes σ s t ≡ passed g
  unfolding passes
  gate_passes = ap₂ ◌||◌ (sym k.alike) (sym k.held)

  gate_may : may_act σ s t ≡ allowed g
  unfolding may_act
  gate_may = ap₂ ◌||◌ gate_passes (sym (not_twice _) ∙ ap not (sym k.barred))

  gate_level : in_force σ s t ≡ level_in_force g t.identity.level
  unfolding in_force
  gate_level = ap₂ (λ (x y : Bool). if x && y then t.identity.level else min t.identity.level identification) gate_passes (sym (not_twice _) ∙ ap not (sym k.higher))

module _ {s n : ℕ} {hs : List Handle} {cs ts ds : List ℕ} where
  pub no_handle_lem : {e : Refusal} → LookedUp s n Mask.impersonate hs (Err e) → Carried (λ σ. impersonate σ s n) ts ds hs cs ts ds cs (Err e)
  unfolding impersonate
  no_handle_lem l = handle_refuses l _

  module _ {h : Handle} (l : LookedUp s n Mask.impersonate hs (Ok h)) {own : Identity} (a : IdentityGiven h.token ts own) {g : Gate} (c : GateRead h.token s ts cs g) where
    module _ (σ : State) (v : valid σ ≡ true) (p : PartsIn σ ts ds hs cs) where
      abbrev t : rules.Token
      t = state.token_of σ h.token

      gate : GateOf σ s t g
      gate = c.gate σ v p.tokens p.control

      identity : identity_of own ≡ t.identity
      identity = a.identity σ v p.tokens

      level : in_force σ s t ≡ level_in_force g own.level
      level = gate_level gate ∙ ap (λ (x : rules.Identity). level_in_force g x.level) (sym identity)

      abbrev after : State
      after = released (set_client s (client h.token (level_in_force g own.level)) (marked s t σ))

      decided : carried_out σ (impersonate σ s n) ≡ carried_out σ (decide (typed own) (allowed g) (success after (encode (level_in_force g own.level))))
      unfolding impersonate
      decided = looked_up l σ v p.handles _ ∙ rw (level, gate_may gate, sym identity)

      went_on : None ≡ first_refusal g own.kind
          → (carried_out σ (impersonate σ s n) ≡ record { state = after; answer = 0 ∷ encode (level_in_force g own.level) }) × (typed own ≡ true)
      unfolding carried_out
      went_on e = let o = goes_on σ (typed own) (allowed g) (success after (encode (level_in_force g own.level))) e in (decided ∙ o.0, o.1)

      after_parts : None ≡ first_refusal g own.kind → {cs' ts' ds' : List ℕ} → Acted g h.token (level_in_force g own.level) s ts ds hs cs ts' ds' cs'
          → PartsIn after ts' ds' hs cs'
      after_parts e w =
          let i = (looked_up_found l σ v p.handles).token in
          w.parts σ v p gate i.was i.number
          (ap (λ (x : rules.Identity). x.type) (sym identity) ∙ eqb-true own.kind impersonation (went_on e).1)
          (rw (sym level) (in_force_lem σ s t))

    pub not_allowed : {e : Refusal} → Some e ≡ first_refusal g own.kind → Carried (λ σ. impersonate σ s n) ts ds hs cs ts ds cs (Err e)
    not_allowed {e} q = refuses e (λ σ v p. decided σ v p ∙ stops σ (typed own) (allowed g) _ q)

    pub impersonated : None ≡ first_refusal g own.kind → {level : ℕ} → level ≡ level_in_force g own.level → {cs' ts' ds' : List ℕ} → Acted g h.token level s ts ds hs cs ts' ds' cs'
        → Carried (λ σ. impersonate σ s n) ts ds hs cs ts' ds' cs' (Ok (ends (answers.Value level)))
    impersonated e {level} same w =
        ends_with (answers.Value level) (λ σ v p. tt)
        (λ σ v p. rw (went_on σ v p e).0 (after_parts σ v p e (rw same at w)))
        (λ σ v p. rw ((went_on σ v p e).0, same))

-- ---- request 13

pub reverted : {s : ℕ} {hs : List Handle} {cs ts ds : List ℕ} {x : Client} → ClientGiven s cs x → {cs' ts' ds' : List ℕ} → ActsFrom s 0 0 ts ds hs cs ts' ds' cs'
    → Carried (λ σ. revert σ s) ts ds hs cs ts' ds' cs' (Ok (ends (answers.Values x.token x.level)))
unfolding revert carried_out no_client
reverted {x = x} c w =
    ends_with (answers.Values x.token x.level) (λ σ v p. tt)
    (λ σ v p. w.parts σ v p (inl refl))
    (λ σ v p. ap (λ (y : stations.Client). 0 ∷ encode_all (y.token ∷ y.level ∷ [])) (c.client σ p.control))
