-- Request 4: how it ends. Assumes nothing.
use Rattle.std.proofs.Common.{ℕ, ◌≤◌, ◌<◌, ◌≡◌, refl, sym, ap, ap₂, ◌∙◌, true, ◌&&◌, List, ◌∷◌, length}
use Rattle.std.specs.Prelude.{Ok, Err, leb}
use borrow.Author.Tests.{le-leb, lt-leb}
use Rattle.rules.specs.Mask as mask
use Rattle.rules.specs.Refusal.{bad_field, capacity_below}
use Rattle.rules.specs.Handle as handles
use Rattle.rules.specs.Token.{Token}
use Rattle.rules.specs.Memory.{dacl_row, token_at}
use Rattle.rules.specs.Valid.{valid, token_valid}
use Rattle.rules.specs.State as state
use Rattle.rules.specs.State.{State, token_slots}
use Rattle.rules.specs.Query.{query, class_bytes}
use Rattle.rules.specs.Decision.{Decision, need◌else◌then◌, success, carried_out}
use Rattle.rules.proofs.Rows.{token_back, length_dacl_row}
use Rattle.handle.specs.declared.Handle.{Handle}
use Rattle.state.specs.TokenCalls.{lent}
use Rattle.state.specs.ReleaseFacts.{PartsIn}
use Rattle.state.proofs.InPlace.{in_slot, lent_row}
use Rattle.answer.specs.declared.Answer.TheVariants as answers
use Rattle.answer.specs.declared.class.Class.{Class}
use Rattle.answer.specs.declared.class.Class.TheVariants as class
use Rattle.answer.specs.declared.class.Single.TheVariants as single
use Rattle.answer.specs.declared.refusal.Refusal.{Refusal}
use Rattle.answer.specs.declared.refusal.Refusal.TheVariants as refusal
use Rattle.answer.specs.Class.{class_number, Decodes}
use Rattle.answer.specs.Classes.{RowCounted}
use Rattle.answer.specs.Answer.{token_in}
use Rattle.decide.specs.declared.located.Located.{Located}
use Rattle.decide.specs.Carried.{ends, Carried}
use Rattle.decide.specs.Located.{LocatedBy}
use Rattle.decide.proofs.Deciding.{refuses, ends_with}
use Rattle.decide.proofs.Locating.{locating_refuses}
use Rattle.decide.proofs.LookupLaws.{goes_on}

-- the rule, once the handle is found
abbrev class_decision : ℕ → ℕ → State → Token → Decision
class_decision class capacity σ t =
    need leb 1 class && leb class 13 else bad_field then
    need leb (length (class_bytes t class)) capacity else capacity_below (length (class_bytes t class)) then
    success σ (class_bytes t class)

-- every class has one of document 01's numbers
is_class : (c : Class) → (leb 1 (class_number c) && leb (class_number c) 13) ≡ true
is_class (class.Single single.User) = refl
is_class (class.Single single.Owner) = refl
is_class (class.Single single.PrimaryGroup) = refl
is_class (class.Single single.Type) = refl
is_class (class.Single single.Level) = refl
is_class (class.Single single.Scope) = refl
is_class (class.Single single.Elevation) = refl
is_class (class.Single single.Integrity) = refl
is_class class.Groups = refl
is_class class.Privileges = refl
is_class class.Dacl = refl
is_class class.Statistics = refl
is_class class.Restricting = refl

module _ (s n class capacity : ℕ) (hs : List Handle) (cs ts ds : List ℕ) where
  pub not_located : {e : Refusal} → LocatedBy s n mask.query hs ts (Err e) → Carried (λ σ. query σ s n class capacity) ts ds hs cs ts ds cs (Err e)
  unfolding query
  not_located l = locating_refuses l (λ σ h t. class_decision class capacity σ t)

  module _ (x : Located) (g : LocatedBy s n mask.query hs ts (Ok x)) where
    -- what the token of the handle says
    decided : (σ : State) → valid σ ≡ true → PartsIn σ ts ds hs cs
        → carried_out σ (query σ s n class capacity) ≡ carried_out σ (class_decision class capacity σ (state.token_of σ x.handle.token))
    unfolding query
    decided σ v p =
        goes_on σ s n mask.query (λ h t. class_decision class capacity σ t) (g.refusal σ v p.handles p.tokens)
        ∙ ap (λ (h : handles.Handle). carried_out σ (class_decision class capacity σ (state.token_of σ h.token))) (sym (g.there.handle σ v p.handles))

    pub no_class : {e : Refusal} → Decodes class (Err e) → Carried (λ σ. query σ s n class capacity) ts ds hs cs ts ds cs (Err e)
    unfolding carried_out
    no_class {e} d = refuses e (λ σ v p. decided σ v p ∙ rw (d.0, d.1))

    module _ (c : Class) (d : Decodes class (Ok c)) (size : ℕ) (counted : RowCounted (lent x.slot ts) (class_number c) size) where
      known : (leb 1 class && leb class 13) ≡ true
      known = ap (λ (k : ℕ). leb 1 k && leb k 13) (sym d) ∙ is_class c

      module _ (σ : State) (v : valid σ ≡ true) (p : PartsIn σ ts ds hs cs) where
        abbrev own : Token
        own = state.token_of σ x.handle.token

        own_valid : token_valid own ≡ true
        own_valid = (in_slot x.handle.token g.there.slot v p.tokens g.there.inside).is_valid

        size_is : size ≡ length (class_bytes own class)
        size_is =
            counted.counted (dacl_row own) (length_dacl_row own)
            ∙ ap (λ (ws : List ℕ). length (class_bytes (token_at ws (dacl_row own)) (class_number c))) (lent_row x.handle.token g.there.slot v p.tokens g.there.inside)
            ∙ ap₂ (λ (t : Token) (k : ℕ). length (class_bytes t k)) (token_back own own_valid) d

        token_is : token_in ts ds x.slot ≡ own
        token_is =
            let i = in_slot x.handle.token g.there.slot v p.tokens g.there.inside in
            ap₂ token_at i.words i.bytes ∙ token_back own own_valid

      pub too_small : capacity < size → Carried (λ σ. query σ s n class capacity) ts ds hs cs ts ds cs (Err (refusal.CapacityBelow size))
      unfolding carried_out
      too_small l = refuses (refusal.CapacityBelow size) (λ σ v p. decided σ v p ∙ rw (known, sym (size_is σ v p), lt-leb size capacity l))

      pub class_given : size ≤ capacity → Carried (λ σ. query σ s n class capacity) ts ds hs cs ts ds cs (Ok (ends (answers.Class x.slot c)))
      unfolding carried_out
      class_given l = ends_with (answers.Class x.slot c)
          (λ σ v p. (g.there.inside, rw (token_is σ v p) (own_valid σ v p)))
          (λ σ v p. rw (given σ v p) p)
          (λ σ v p. rw (given σ v p, token_is σ v p, d))
        where
          given : (σ : State) → valid σ ≡ true → PartsIn σ ts ds hs cs
              → carried_out σ (query σ s n class capacity) ≡ record { state = σ; answer = 0 ∷ class_bytes (state.token_of σ x.handle.token) class }
          given σ v p = decided σ v p ∙ rw (known, sym (size_is σ v p), le-leb size capacity l)
