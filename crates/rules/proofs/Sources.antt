-- A token made from another has no more than its source, in every run. Assumes nothing.
use Prim.Native.Nat.{ℕ, ◌≤◌}
use native.Mathlib.Omega.{arith}
use mathlib.Core.Path.{◌≡◌, refl, ap₂, ◌∙◌, subst, sym}
use mathlib.Core.Bool.{Bool, true, false, not, ◌&&◌}
use mathlib.Core.Logic.{⊎_elim}
use mathlib.Core.List.{List, map}
use lib.Dec.{eqb}
use Rattle.rules.specs.Given.{Given, number_in}
use Rattle.rules.specs.Basic.{implies, all, is_empty}
use Rattle.rules.specs.Decision.{carried_out, with_handle, issued, Decision}
use Rattle.rules.specs.Duplicate as Duplicate
use Rattle.rules.specs.Duplicate.{is_anonymous}
use Rattle.rules.specs.Growth.{Source, source_at, partner_at, source_of, FromSource, Copying, Mem}
use Rattle.rules.specs.Handle.{no_handle, Handle}
use Rattle.rules.specs.Link.{partner_of, clone, get_linked}
use Rattle.rules.specs.Mask as Mask
use Rattle.rules.specs.Number.{Read, got, bad}
use Rattle.rules.specs.Privileges.{tcb, remove, only_used}
use Rattle.rules.specs.Request.{parse, Request}
use Rattle.rules.specs.Restrict as Restrict
use Rattle.rules.specs.Restrict.{restricting_to}
use Rattle.rules.specs.Run.{of_bytes, events, outcomes, Call, Serving, serves}
use Rattle.rules.specs.Serve.{rule, decided, decision, serve}
use Rattle.rules.specs.State.{with_tokens, with_handles, number_of, token_of, held, change_token, used, add_token, find_handle, handle_of, add_handle, entering, with_sids, State}
use Rattle.rules.specs.Table.{or_else, lives, added, Slot, free, live}
use Rattle.rules.specs.Token.{primary, new_token, with_elevation, Token, is_restricted}
use Rattle.rules.proofs.Logic.{not_both, and_l, and_r, implies_e, map_mem}
use Rattle.rules.proofs.Bits.{within_refl, without_within, none_within}
use Rattle.rules.proofs.Restricting.{narrower}
use Rattle.rules.proofs.Tables.{on_if, in_placed}
use Rattle.rules.proofs.Facts.{StateFacts}
use Rattle.rules.proofs.Changes.{put_numbers}
use Rattle.rules.proofs.Steps.{Ends, ended, enter_handle}
use Rattle.rules.proofs.Always.{run_serves}

stays : (mark : ℕ) (given own : List ℕ) (write : Bool) → not (is_empty own) ≡ true
    → implies (not (is_empty own)) (not (is_empty (restricting_to given own)) && implies (eqb mark 1) write) ≡ true → not (is_empty (restricting_to given own)) ≡ true
stays mark given own write r h = and_l _ (implies (eqb mark 1) write) (implies_e _ _ h r)

-- ---- the tokens that a request makes

-- every token of e whose number d had not given has the property
unfoldable pub Fresh : State → (Token → Type 0) → State → Type 0
Fresh d P e = (u : Token) → Mem u (lives e.tokens.slots) → d.tokens.next ≤ u.number → P u

pub none_fresh : (d : State) → StateFacts d → (P : Token → Type 0) → Fresh d P d
unfolding Fresh number_of
none_fresh d f P u m h = absurd (let k = (f.loose.tokens.given u.number (map_mem number_of m)).1 in omega arith)

pub made : (d : State) → StateFacts d → (P : Token → Type 0) (y : Decision) → Ends (Fresh d P) y → Fresh d P (carried_out d y).state
made d f P y = ended (Fresh d P) d y (none_fresh d f P)

-- used marks make no token
pub marked_fresh : (d : State) → StateFacts d → (P : Token → Type 0) (n s : ℕ) → Fresh d P (used n s d)
unfolding Fresh used change_token number_of
marked_fresh d f P n s u m h = absurd (let k = (f.loose.tokens.given u.number (rw (put_numbers d _) at (map_mem number_of m))).1 in omega arith)

-- SIDs that enter make no token
pub entered_fresh : (d e : State) (P : Token → Type 0) (xs : List Given) → Fresh d P e → Fresh d P (entering xs e)
unfolding Fresh entering with_sids
entered_fresh d e P xs h = h

-- u is made in e, where no other is new to d
pub issues : (d e : State) (P : Token → Type 0) (s mask : ℕ) (u : Token) → Fresh d P e → P u → Ends (Fresh d P) (issued s mask u e)
unfolding issued Ends add_handle with_handles add_token with_tokens added Fresh
issues d e P s mask u old h v m k = ⊎_elim (λ q. rw q h) (λ i. old v i k) (in_placed u e.tokens.slots m)

-- ---- from a source

module _ (d : State) (f : StateFacts d) (x : Source) where
  t : Token
  t = x.token

  abbrev Makes : Decision → Type 0
  Makes = Ends (Fresh d (FromSource x))

  at_slot : (b : Bool) (p : Slot Handle) → source_at d b p ≡ live x → (t ≡ token_of d (or_else no_handle p).token) × (x.is_anonymous ≡ b)
  unfolding source_at or_else t
  at_slot b free e = absurd (let z : ◌≡◌ {A = ℕ} 0 1 = cc in omega arith)
  at_slot b (live h) e = (cc, cc)

  on_handle : (s n right : ℕ) (b : Bool) (go : Handle → Token → Decision) → source_at d b (find_handle d s n) ≡ live x
      → (x.is_anonymous ≡ b → Makes (go (handle_of d s n) t)) → Makes (with_handle d s n right go)
  unfolding with_handle Ends handle_of
  on_handle s n right b go e k known permitted = let a = at_slot b (find_handle d s n) e in rw (← a.0) (k a.1)

  copies : (s mask : ℕ) (u : Token) → FromSource x u → Makes (issued s mask u d)
  copies s mask u h = issues d d (FromSource x) s mask u (none_fresh d f (FromSource x)) h

  -- what has the privileges, the limits and the root of its source
  as_source : (u : Token) → x.is_anonymous ≡ false → u.privileges ≡ t.privileges → u.limits ≡ t.limits → u.identity.root ≡ t.identity.root → FromSource x u
  unfolding t is_restricted
  as_source u a p l r = record {
    present = rw p (within_refl _);
    restricted = λ b h. rw l h;
    restricting = λ b h n m. rw (← l) m;
    root = rw a r;
  }

  duplicated : (n type level : ℕ) → x.is_anonymous ≡ is_anonymous type level → FromSource x (Duplicate.duplicated n type level t)
  unfolding Duplicate.duplicated Duplicate.copied Duplicate.retyped Duplicate.anonymous_copy Duplicate.nobody new_token only_used is_anonymous t
  duplicated n type level e =
      let asked : (p q : Bool) → eqb type primary ≡ p → eqb level 0 ≡ q → x.is_anonymous ≡ (not p && q) = λ p q a b. e ∙ ap₂ (λ p q. not p && q) a b in
      on_if (FromSource x) (eqb type primary) _ _ (λ a. as_source _ (asked true _ a refl) refl refl refl)
      (λ a.
      on_if (FromSource x) (eqb level 0) _ _
      (λ b.
      record {
        present = none_within _;
        restricted = λ c. absurd (not_both (asked false true a b) c);
        restricting = λ c. absurd (not_both (asked false true a b) c);
        root = rw (asked false true a b) refl;
      })
      (λ b. as_source _ (asked false false a b) refl refl refl))

  restricted : (n mark removed : ℕ) (deny sids : List ℕ) → x.is_anonymous ≡ false → Restrict.narrows t mark sids ≡ true → FromSource x (Restrict.restricted n mark removed deny sids t)
  unfolding Restrict.restricted remove Restrict.limited is_restricted Restrict.narrows t
  restricted n mark removed deny sids a h = record {
    present = without_within t.privileges.present removed;
    restricted = λ b r. stays mark sids t.limits.restricting _ r h;
    restricting = λ b r n m. narrower sids t.limits.restricting r m;
    root = rw a refl;
  }

  -- the partner's clone, or a handle on the partner itself
  at_partner : (p : Slot Handle) → partner_at d p ≡ live x → (t ≡ token_of d (partner_of d (or_else no_handle p).token)) × (x.is_anonymous ≡ false)
  unfolding partner_at or_else t
  at_partner free e = absurd (let z : ◌≡◌ {A = ℕ} 0 1 = cc in omega arith)
  at_partner (live h) e = (cc, cc)

  cloned : (n : ℕ) → x.is_anonymous ≡ false → FromSource x (clone n t)
  unfolding clone with_elevation Duplicate.copied Duplicate.retyped t
  cloned n a = as_source _ a refl refl refl

  linked : (s n : ℕ) → partner_at d (find_handle d s n) ≡ live x → Makes (get_linked d s n)
  unfolding get_linked with_handle Ends handle_of add_handle with_handles Fresh
  linked s n e known permitted paired =
      let a = at_partner (find_handle d s n) e in
      on_if Makes (held d s tcb) _ _ (λ h room. marked_fresh d f (FromSource x) tcb s)
      (λ h room. rw (← a.0) (copies s Mask.query _ (cloned d.tokens.next a.1)))

  none : {A : Type 0} → ◌≡◌ {A = Slot Source} free (live x) → A
  none e = absurd (let z : ◌≡◌ {A = ℕ} 0 1 = cc in omega arith)

  restricts : (s n mark removed : ℕ) (deny : List ℕ) (given : List Given) → source_at d false (find_handle d s n) ≡ live x → Makes (Restrict.restrict d s n mark removed deny given)
  unfolding Restrict.restrict Restrict.restrict_numbered Restrict.valid_restrict Ends
  restricts s n mark removed deny given e =
      let τ = entering given d in
      let numbers = map (number_in τ.sids) given in
      subst Makes (sym (enter_handle given d s n _ _))
      (on_handle s n _ _ _ e λ b ok room.
      let narrow : Restrict.narrows t mark numbers ≡ true = search (and_l, and_r) in
      issues d τ (FromSource x) s (handle_of d s n).mask _ (entered_fresh d d (FromSource x) given (none_fresh d f (FromSource x))) (restricted τ.tokens.next mark removed deny numbers b narrow))

  of_request : (s : ℕ) (r : Read Request) → source_of d s r ≡ live x → Makes (decided d s r)
  unfolding source_of decided rule Duplicate.duplicate Ends
  of_request s bad e = none e
  of_request s (got (Request.open_own mask) bytes) e = none e
  of_request s (got (Request.close n) bytes) e = none e
  of_request s (got (Request.create u x i p b gs) bytes) e = none e
  of_request s (got (Request.query n class capacity) bytes) e = none e
  of_request s (got (Request.privileges n es) bytes) e = none e
  of_request s (got (Request.groups n es) bytes) e = none e
  of_request s (got (Request.scope n v) bytes) e = none e
  of_request s (got (Request.defaults n o g x dacl) bytes) e = none e
  of_request s (got (Request.duplicate n type level mask) bytes) e =
      on_handle s n _ _ _ e λ b ok room. copies s mask _ (duplicated d.tokens.next type level b)
  of_request s (got (Request.restrict n mark removed deny sids) bytes) e = restricts s n mark removed deny sids e
  of_request s (got (Request.install n) bytes) e = none e
  of_request s (got (Request.impersonate n) bytes) e = none e
  of_request s (got Request.revert bytes) e = none e
  of_request s (got (Request.link n m session) bytes) e = none e
  of_request s (got (Request.linked n) bytes) e = linked s n e
  of_request s (got (Request.evaluate n c) bytes) e = none e

-- ---- every body that is served in a run

pub of_serving : (x : Serving) → StateFacts x.before → Copying x
unfolding Copying serve decision Fresh
of_serving x f t u e m h = made x.before f (FromSource t) (decision x.before x.station x.body) (of_request x.before f t x.station (parse x.body) e) u m h

pub no_more : (cs : List Call) (σ : State) → all of_bytes cs ≡ true → StateFacts σ → (x : Serving) → Mem (serves x) (outcomes (events cs σ) σ) → Copying x
no_more cs σ w f x m = of_serving x (run_serves cs σ w f x m).facts
