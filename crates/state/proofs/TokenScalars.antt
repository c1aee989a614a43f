-- Who a token is and whether it is restricted, read in its row; its elevation, read and stored there; its privileges, read and marked there.
-- Assumes nothing.
use Prim.Native.Nat.{ℕ, suc, ◌%◌, ◌^◌, ◌≤◌, ◌<◌}
use native.Mathlib.Omega.{arith}
use mathlib.Core.Path.{◌≡◌, refl, sym, ap, subst, ◌∙◌}
use mathlib.Core.Bool.{Bool, true, false, not}
use mathlib.Core.List.{List, [], ◌∷◌}
use lib.Dec.{eqb}
use lib.ListN.{length, get_or}
use borrow.Author.Tests.{ne_eqb}
use Rattle.rules.specs.Basic.{is_empty}
use Rattle.rules.specs.Privileges as Rules
use Rattle.rules.specs.Privileges.{is_enabled, mark_used, granted}
use Rattle.rules.specs.Token.{Token, default_elevation, with_privileges, with_elevation, is_restricted, new_token, no_limits, primary_of}
use Rattle.rules.specs.State as State
use Rattle.rules.specs.State.{State, token_slots, no_token, held, used_on, used, caller, change_token}
use Rattle.rules.specs.Head as Head
use Rattle.rules.specs.Memory.{head, token_row, token_at, identity_at}
use Rattle.rules.specs.Valid.{valid}
use Rattle.rules.proofs.Rows.{token_back}
use Rattle.rules.proofs.Bits.{power_inside}
use Rattle.privilege.specs.Meaning.{privileges_of}
use Rattle.privilege.specs.declared.privileges.Privileges.{Privileges}
use Rattle.token.specs.Meaning.{identity_of}
use Rattle.token.specs.Row.{identity_in, privileges_in, Becomes}
use Rattle.token.specs.declared.Identity.{Identity}
use Rattle.control.specs.Stations.{CallerNumber}
use Rattle.state.specs.Parts.{TokensIn}
use Rattle.state.specs.TokenCalls.{FoundAt, lent, IdentityGiven, IdentityAt, RestrictedGiven, ElevationGiven, PrivilegesGiven, Held, Marked, WordsChanged, Used}
use Rattle.state.proofs.InPlace.{back, in_slot, lent_row, no_token_lem, words_changed, words_unchanged}

-- ---- reading

pub empty_size : (xs : List ℕ) → is_empty xs ≡ eqb (length xs) 0
unfolding is_empty
empty_size [] = refl
empty_size (x ∷ xs) = sym (ne_eqb (suc (length xs)) 0 (λ h. omega arith))

pub privileges_in_row : (ws : List ℕ) (t : Token) → ws ≡ token_row t → privileges_of (privileges_in ws) ≡ t.privileges
unfolding token_row head
privileges_in_row ws t e = ap (λ (l : List ℕ). privileges_of (privileges_in l)) e

-- in the row of a slot

module _ {i : ℕ} {ts : List ℕ} where
  pub identity_at_lem : {r : Identity} {ws : List ℕ} → ws ≡ lent i ts → i < token_slots → r ≡ identity_in ws → IdentityAt i ts r
  unfolding identity_at token_at
  identity_at_lem k l e = record {
    given = λ n at. record {
      identity = λ σ v h.
          let s = in_slot n at v h l in
          ap identity_of (e ∙ ap identity_in (k ∙ lent_row n at v h l)) ∙ ap (λ (t : Token). t.identity) (token_back (State.token_of σ n) s.is_valid);
    };
  }

  pub no_identity : token_slots ≤ i → IdentityAt i ts (record { user = 0; session = 0; kind = 1; level = 0; integrity = 0; root = 0 })
  unfolding no_token new_token primary_of
  no_identity l = record { given = λ n at. record { identity = λ σ v h. sym (ap (λ (t : Token). t.identity) (no_token_lem n at v h l)) } }

-- in the row of a number's token, or of none

module _ (n : ℕ) {ts ws : List ℕ} (o : (i : ℕ) × FoundAt n ts i × (i < token_slots) × (ws ≡ lent i ts)) where
  row_is : (σ : State) → valid σ ≡ true → {ds : List ℕ} → TokensIn σ ts ds → ws ≡ token_row (State.token_of σ n)
  row_is σ v h = o.3 ∙ lent_row n o.1 v h o.2

  pub identity_given : {r : Identity} → r ≡ identity_in ws → IdentityGiven n ts r
  identity_given e = (identity_at_lem o.3 o.2 e).given n o.1

  pub restricted_given : {r : Bool} → r ≡ not (eqb (get_or ws Head.restricting_count 0) 0) → RestrictedGiven n ts r
  unfolding token_row head is_restricted
  restricted_given e = record {
    restricted = λ σ v h.
        let sids = (State.token_of σ n).limits.restricting in
        e ∙ ap (λ (w : List ℕ). not (eqb (get_or w Head.restricting_count 0) 0)) (row_is σ v h) ∙ ap not (sym (empty_size sids));
  }

  pub elevation_given : {r : ℕ} → r ≡ get_or ws Head.elevation 0 → ElevationGiven n ts r
  unfolding token_row head
  elevation_given e = record { elevation = λ σ v h. e ∙ ap (λ (w : List ℕ). get_or w Head.elevation 0) (row_is σ v h) }

  pub privileges_given : {p : Privileges} → p ≡ privileges_in ws → PrivilegesGiven n ts p
  privileges_given e = record { privileges = λ σ v h. ap privileges_of e ∙ privileges_in_row ws (State.token_of σ n) (row_is σ v h) }

module _ (n : ℕ) {ts : List ℕ} (o : FoundAt n ts token_slots) where
  is_none : (σ : State) → valid σ ≡ true → {ds : List ℕ} → TokensIn σ ts ds → State.token_of σ n ≡ no_token
  is_none σ v h = no_token_lem n o v h (omega arith)

  pub nobody : IdentityGiven n ts (record { user = 0; session = 0; kind = 1; level = 0; integrity = 0; root = 0 })
  nobody = (no_identity {i = token_slots} {ts = ts} (omega arith)).given n o

  pub unrestricted : RestrictedGiven n ts false
  unfolding no_token new_token no_limits is_restricted is_empty
  unrestricted = record { restricted = λ σ v h. sym (ap is_restricted (is_none σ v h)) }

  pub unelevated : ElevationGiven n ts default_elevation
  unfolding no_token new_token
  unelevated = record { elevation = λ σ v h. sym (ap (λ (t : Token). t.elevation) (is_none σ v h)) }

  pub unprivileged : PrivilegesGiven n ts (record { present = 0; enabled = 0; by_default = 0; used = 0 })
  unfolding no_token new_token granted
  unprivileged = record { privileges = λ σ v h. sym (ap (λ (t : Token). t.privileges) (is_none σ v h)) }

-- ---- changed in place

module _ {i : ℕ} {ts : List ℕ} where
  -- another elevation
  pub elevated_in_place : {n : ℕ} {ws : List ℕ} (e : ℕ) → FoundAt n ts i → i < token_slots → Becomes (with_elevation e) (lent i ts) ws → WordsChanged n (with_elevation e) ts (back i ws ts)
  unfolding with_elevation
  elevated_in_place e at l b = words_changed at (with_elevation e) (λ t. refl) (λ t. refl) l (λ t v q. b.row t q)

  pub elevated_nowhere : {n : ℕ} (e : ℕ) → FoundAt n ts i → token_slots ≤ i → WordsChanged n (with_elevation e) ts ts
  unfolding with_elevation
  elevated_nowhere e at l = words_unchanged at (with_elevation e) (λ t. refl) l

pub held_given : {s m : ℕ} {ts cs : List ℕ} → CallerNumber s cs m → {n : ℕ} {p : Privileges} {r : Bool} → PrivilegesGiven m ts p → r ≡ is_enabled n (privileges_of p) → Held n s ts cs r
unfolding held caller
held_given c {n} g e = record {
  held = λ σ v h j. e ∙ ap (is_enabled n) (g.privileges σ v h) ∙ ap (λ (k : ℕ). is_enabled n (State.token_of σ k).privileges) (c.number σ j);
}

module _ {s m i : ℕ} {ts cs : List ℕ} (c : CallerNumber s cs m) (at : FoundAt m ts i) where
  -- ---- the used mark

  used_by : {n : ℕ} {ts' : List ℕ} → WordsChanged m (used_on n) ts ts' → Used n s ts cs ts'
  unfolding used
  used_by {n} {ts'} w = record {
    tokens = λ σ v {ds} h j. subst (λ (k : ℕ). TokensIn (change_token k (used_on n) σ) ts' ds) (c.number σ j) (w.tokens σ v h);
  }

  pub used_in_place : {n w : ℕ} {ws : List ℕ} → i < token_slots → n < 64 → w ≡ 2 ^ n % 2 ^ 64 → Marked w (lent i ts) ws → Used n s ts cs (back i ws ts)
  unfolding used_on with_privileges
  used_in_place {n} {w} l in64 e k = used_by (words_changed at (used_on n) (λ t. refl) (λ t. refl) l
      (λ t v q. k.row t q ∙ ap (λ (b : ℕ). token_row (with_privileges (mark_used b t.privileges) t)) (e ∙ power_inside 64 n in64)))

  pub used_nowhere : {n : ℕ} → token_slots ≤ i → Used n s ts cs ts
  unfolding used_on with_privileges
  used_nowhere {n} l = used_by (words_unchanged at (used_on n) (λ t. refl) l)

pub marked : {bits : ℕ} {ws ws' : List ℕ} {p q : Privileges} → p ≡ privileges_in ws → privileges_of q ≡ mark_used bits (privileges_of p)
    → Becomes (with_privileges (privileges_of q)) ws ws' → Marked bits ws ws'
marked {bits} {ws} g e b = record {
  row = λ t k. b.row t k ∙ ap (λ (x : Rules.Privileges). token_row (with_privileges x t)) (e ∙ ap (mark_used bits) (ap privileges_of g ∙ privileges_in_row ws t k));
}
