-- What a request leaves alone of every token: any relation that holds of a token and itself, goes on, and holds over the used marks and over
-- the request's own change of the token that it is on holds of each token before and after it. Assumes nothing.
use Prim.Native.Nat.{ℕ, ◌<◌}
use mathlib.Core.Path.{◌≡◌, refl, sym, subst}
use mathlib.Core.Logic.{◌⊎◌, inl, inr, ⊎_elim}
use mathlib.Core.List.{List, ◌∷◌, map}
use lib.Dec.{eqb}
use Rattle.rules.specs.Given.{Given, GivenGroup, group_sid}
use Rattle.rules.specs.AdjustDefaults as AdjustDefaults
use Rattle.rules.specs.AdjustGroups as AdjustGroups
use Rattle.rules.specs.AdjustPrivileges as AdjustPrivileges
use Rattle.rules.specs.AdjustScope as AdjustScope
use Rattle.rules.specs.Bits.{has}
use Rattle.rules.specs.Create as Create
use Rattle.rules.specs.Decision.{with_handle, issued, Decision}
use Rattle.rules.specs.Duplicate as Duplicate
use Rattle.rules.specs.Entry.{Entry}
use Rattle.rules.specs.Evaluate as Evaluate
use Rattle.rules.specs.Growth.{Live}
use Rattle.rules.specs.Handle.{Handle}
use Rattle.rules.specs.Impersonate as Impersonate
use Rattle.rules.specs.Install as Install
use Rattle.rules.specs.Ladder.{status}
use Rattle.rules.specs.Link as Link
use Rattle.rules.specs.Number.{Read, got, bad}
use Rattle.rules.specs.OpenClose as OpenClose
use Rattle.rules.specs.Privileges.{create_token, assign_primary_token, tcb, impersonate}
use Rattle.rules.specs.Query as Query
use Rattle.rules.specs.Request.{parse, Request}
use Rattle.rules.specs.Restrict as Restrict
use Rattle.rules.specs.Run.{Serving, served_by}
use Rattle.rules.specs.Serve.{rule, decided, decision, serve}
use Rattle.rules.specs.State.{State, station_count, with_handles, with_stations, with_pairs, change_station, set_token, set_client, token_of, held, change_token, used_on, used, add_token, handle_of, add_handle, drop_handle, set_pair, entering, with_sids, released}
use Rattle.rules.specs.Token.{Token, full, limited, primary, new_token, with_privileges, with_groups, with_defaults, with_elevation, with_scope, next_modified}
use Rattle.rules.proofs.Logic.{not_both}
use Rattle.rules.proofs.Tables.{on_if}
use Rattle.rules.proofs.Facts.{StateFacts}
use Rattle.rules.proofs.Changes.{Carries, carried, carries_refl, carries_trans, put_carries, add_carries, release_carries}
use Rattle.rules.proofs.Steps.{Is, Found, Ends, ended, after_handle, after_both, install_marked, client_marked, enter_handle, enter_used}
use Rattle.rules.proofs.Kept.{changed_is, mark, marks_carry, marked_next}
use Rattle.rules.proofs.Ladder.{succeeds_or_same}
use Rattle.rules.proofs.Always.{Onward}

-- ---- the relation

pub record Lasting (R : Token → Token → Type 0) : Type 0 where
  pub alike : (t : Token) → R t t
  pub onward : (t u v : Token) → R t u → R u v → R t v
  pub marks : (n : ℕ) (t : Token) → R t (used_on n t)

-- R, or else P
unfoldable pub Or : (Token → Token → Type 0) → Type 0 → Token → Token → Type 0
Or R P t u = R t u ⊎ P

pub or_lasting : (R : Token → Token → Type 0) (P : Type 0) → Lasting R → Lasting (Or R P)
unfolding Or
or_lasting R P l = record {
  alike = λ t. inl (l.alike t);
  onward = λ t u v a b. ⊎_elim (λ r. ⊎_elim (λ q. inl (l.onward t u v r q)) (λ p. inr p) b) (λ p. inr p) a;
  marks = λ n t. inl (l.marks n t);
}

-- it holds over the change g of the token that handle n is on
abbrev pub Over : (Token → Token → Type 0) → State → ℕ → ℕ → (Token → Token) → Type 0
Over R d s n g = (t : Token) → t.number ≡ (handle_of d s n).token → R t (g t)

-- it holds over the request's own change of a token: nothing is asked of a request that changes none
pub record Allows (R : Token → Token → Type 0) (d : State) (s : ℕ) (r : Request) : Type 0 where
  pub privileges : (n : ℕ) (es : List Entry) → r ≡ Request.privileges n es → Over R d s n (AdjustPrivileges.adjusted_token es)
  pub groups : (n : ℕ) (es : List Entry) → r ≡ Request.groups n es → Over R d s n (AdjustGroups.adjusted_token es)
  pub scope : (n v : ℕ) → r ≡ Request.scope n v → Over R d s n (AdjustScope.scoped_token v)
  pub defaults : (n o g x : ℕ) (bytes : List ℕ) → r ≡ Request.defaults n o g x bytes → Over R d s n (AdjustDefaults.adjusted_token o g x bytes)
  pub link : (n m session : ℕ) → r ≡ Request.link n m session → Over R d s n (with_elevation full) × Over R d s m (with_elevation limited)

duplicate_number : (n type level : ℕ) (t : Token) → (Duplicate.duplicated n type level t).number ≡ n
unfolding Duplicate.duplicated Duplicate.copied Duplicate.anonymous_copy new_token
duplicate_number n type level t =
    on_if (λ (u : Token). u.number ≡ n) (eqb type primary) _ _ (λ e. refl) (λ e. on_if (λ (u : Token). u.number ≡ n) (eqb level 0) _ _ (λ e. refl) (λ e. refl))

module _ (R : Token → Token → Type 0) (l : Lasting R) (d : State) (f : StateFacts d) (s : ℕ) (in8 : s < station_count) where
  unfoldable Goes : State → Type 0
  Goes e = Carries R d.tokens e.tokens

  -- ---- the steps

  stay : Goes d
  unfolding Goes
  stay = carries_refl R l.alike d.tokens

  and_then : (e g : State) → Goes e → Carries R e.tokens g.tokens → Goes g
  unfolding Goes
  and_then e g a b = carries_trans R l.onward a b

  marked : (n : ℕ) → Goes (used n s d)
  unfolding Goes
  marked n = marks_carry R l.alike d s n f in8 (l.marks n)

  frees : (e : State) → Goes e → Goes (released e)
  frees e a = and_then e (released e) a (release_carries R l.alike e)

  changes : (e : State) (n : ℕ) (g : Token → Token) → Is e n → ((t : Token) → (g t).number ≡ t.number) → ((t : Token) → t.number ≡ n → R t (g t)) → Goes e → Goes (change_token n g e)
  unfolding change_token
  changes e n g i same r a = and_then e _ a (put_carries R l.alike e (token_of e n) (g (token_of e n)) i.was (same _) (r _ i.number))

  adds : (e : State) (t : Token) → t.number ≡ e.tokens.next → Goes e → Goes (add_token t e)
  adds e t number a = and_then e _ a (add_carries R l.alike e t number)

  -- ---- the requests

  on_handle : (n right : ℕ) (go : Handle → Token → Decision)
      → (Found d (handle_of d s n) → Ends Goes (go (handle_of d s n) (token_of d (handle_of d s n).token))) → Ends Goes (with_handle d s n right go)
  on_handle n right go k = after_handle Goes d s n right go f k

  issues : (mask : ℕ) (t : Token) (e : State) → t.number ≡ e.tokens.next → Goes e → Ends Goes (issued s mask t e)
  unfolding issued Ends add_handle with_handles Goes
  issues mask t e number a = adds e t number a

  install_marks : (t : Token) → Goes (Install.marked s t d)
  unfolding has Goes
  install_marks t =
      let once = used assign_primary_token s d in
      install_marked Goes d s t (marked assign_primary_token)
      (and_then once (used tcb s once) (marked assign_primary_token) (marks_carry R l.alike once s tcb (mark d s assign_primary_token f in8 refl).step.facts in8 (l.marks tcb)))

  client_marks : (t : Token) → Goes (Impersonate.marked s t d)
  client_marks t = client_marked Goes d s t (marked impersonate) stay

  scopes : (n v : ℕ) → Over R d s n (AdjustScope.scoped_token v) → Ends Goes (AdjustScope.scope d s n v)
  unfolding AdjustScope.scope AdjustScope.scoped_token with_scope next_modified Ends has
  scopes n v r = on_handle n _ _ λ k may.
      changes (used tcb s d) (handle_of d s n).token (AdjustScope.scoped_token v) ((mark d s tcb f in8 refl).is _ k.token) (λ t. refl) r (marked tcb)

  links : (n m session : ℕ) → Over R d s n (with_elevation full) × Over R d s m (with_elevation limited) → Ends Goes (Link.link d s n m session)
  unfolding Link.link Link.linked set_pair with_pairs with_elevation Ends has Goes
  links n m session r = after_both Goes d s n m _ _ f λ a b may ok room.
      let d1 = used tcb s d in
      let x = (handle_of d s n).token in
      let y = (handle_of d s m).token in
      let is = (mark d s tcb f in8 refl).is in
      let d2 = change_token x (with_elevation full) d1 in
      let raised = changes d1 x (with_elevation full) (is x a.token) (λ t. refl) r.0 (marked tcb) in
      frees _ (changes d2 y (with_elevation limited) (changed_is d1 x y (with_elevation full) (is y b.token)) (λ t. refl) r.1 raised)

  gets_linked : (n : ℕ) → Ends Goes (Link.get_linked d s n)
  unfolding Link.get_linked Link.clone Duplicate.copied with_elevation Ends add_handle with_handles Goes
  gets_linked n = on_handle n _ _ λ k paired.
      on_if (Ends Goes) (held d s tcb) _ _ (λ h room. marked tcb) (λ h room. issues _ _ d refl stay)

  -- SIDs that enter change no token
  enters : (xs : List Given) (e : State) → Goes e → Goes (entering xs e)
  unfolding Goes entering with_sids
  enters xs e a = a

  creates : (user : Given) (session integrity present by_default : ℕ) (gs : List GivenGroup) → Ends Goes (Create.create d s user session integrity present by_default gs)
  unfolding Create.create Create.create_numbered Ends new_token
  creates user session integrity present by_default gs may ok room =
      let xs = user ∷ map group_sid gs in
      let e = used create_token s (entering xs d) in
      issues _ _ e (sym (marked_next (entering xs d) s create_token)) (subst Goes (sym (enter_used xs d create_token s)) (enters xs _ (marked create_token)))

  restricts : (n mark removed : ℕ) (deny : List ℕ) (given : List Given) → Ends Goes (Restrict.restrict d s n mark removed deny given)
  unfolding Restrict.restrict Restrict.restrict_numbered Restrict.restricted Ends
  restricts n mark removed deny given =
      subst (Ends Goes) (sym (enter_handle given d s n _ _)) (on_handle n _ _ λ k ok room. issues _ _ (entering given d) refl (enters given d stay))

  by_rule : (r : Request) → Allows R d s r → Ends Goes (rule d s r)
  unfolding rule Ends Goes OpenClose.open_own OpenClose.close Query.query AdjustPrivileges.adjust AdjustPrivileges.adjusted_token AdjustGroups.adjust AdjustGroups.adjusted_token AdjustDefaults.adjust AdjustDefaults.adjusted_token Duplicate.duplicate Install.install Impersonate.impersonate Impersonate.revert Evaluate.evaluate new_token with_privileges with_groups with_defaults next_modified add_handle drop_handle set_token set_client change_station with_handles with_stations
  by_rule (Request.open_own mask) r = λ ok room. stay
  by_rule (Request.close n) r = λ known. frees (drop_handle s n d) stay
  by_rule (Request.create u e i p b gs) r = creates u e i p b gs
  by_rule (Request.query n class capacity) r = on_handle n _ _ λ k ok fits. stay
  by_rule (Request.privileges n es) r = on_handle n _ _ λ k ok. changes d _ (AdjustPrivileges.adjusted_token es) k.token (λ t. refl) (r.privileges n es refl) stay
  by_rule (Request.groups n es) r = on_handle n _ _ λ k ok may. changes d _ (AdjustGroups.adjusted_token es) k.token (λ t. refl) (r.groups n es refl) stay
  by_rule (Request.scope n v) r = scopes n v (r.scope n v refl)
  by_rule (Request.defaults n o g x bytes) r = on_handle n _ _ λ k ok. changes d _ (AdjustDefaults.adjusted_token o g x bytes) k.token (λ t. refl) (r.defaults n o g x bytes refl) stay
  by_rule (Request.duplicate n type level mask) r = on_handle n _ _ λ k ok room. issues mask _ d (duplicate_number d.tokens.next type level _) stay
  by_rule (Request.restrict n mark removed deny sids) r = restricts n mark removed deny sids
  by_rule (Request.install n) r = on_handle n _ _ λ k may ok match. frees (set_token s _ _) (install_marks _)
  by_rule (Request.impersonate n) r = on_handle n _ _ λ k ok gate. frees (set_client s _ _) (client_marks _)
  by_rule Request.revert r = frees (set_client s _ d) stay
  by_rule (Request.link n m session) r = links n m session (r.link n m session refl)
  by_rule (Request.linked n) r = gets_linked n
  by_rule (Request.evaluate n c) r = on_handle n _ _ λ k ok. stay

-- ---- one body

-- where it succeeds, R holds over its request's change of a token
abbrev pub Allowed : (Token → Token → Type 0) → Serving → Type 0
Allowed R x = status (served_by x) ≡ 0 → (r : Request) (bytes : List ℕ) → parse x.body ≡ got r bytes → Allows R x.before x.station r

module _ (R : Token → Token → Type 0) (l : Lasting R) where
  by_read : (d : State) (f : StateFacts d) (s : ℕ) (in8 : s < station_count) (q : Read Request) → ((r : Request) (bytes : List ℕ) → q ≡ got r bytes → Allows R d s r) → Ends (Goes R l d f s in8) (decided d s q)
  unfolding decided Ends
  by_read d f s in8 bad k = λ h. absurd (not_both h refl)
  by_read d f s in8 (got r bytes) k = by_rule R l d f s in8 r (k r bytes refl)

  pub served_carries : (x : Serving) → Onward x → Allowed R x → Carries R x.before.tokens (served_by x).state.tokens
  unfolding served_by serve decision Goes
  served_carries x o k =
      let d = x.before in
      let s = x.station in
      let alone = carries_refl R l.alike d.tokens in
      ⊎_elim (λ done. ended (Goes R l d o.facts s o.station) d (decided d s (parse x.body)) alone (by_read d o.facts s o.station (parse x.body) (k done)))
      (λ same. rw same alone)
      (succeeds_or_same d s x.body)

-- R holds of each token that is live before and after it, or else P does
pub served_alike : (R : Token → Token → Type 0) (P : Type 0) → Lasting R → (x : Serving) → Onward x → Allowed (Or R P) x
    → (t u : Token) → Live t x.before → Live u (served_by x).state → u.number ≡ t.number → R t u ⊎ P
unfolding Live Or
served_alike R P l x o k = carried (Or R P) x.before (served_by x).state o.facts.loose (served_carries (Or R P) (or_lasting R P l) x o k)
