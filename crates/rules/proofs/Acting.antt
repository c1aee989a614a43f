-- What a station acts for: none, or a live impersonation token, and only its own requests 12 and 13 change it. Assumes nothing.
use Prim.Native.Nat.{ℕ, zero, suc}
use native.Mathlib.Omega.{arith}
use mathlib.Core.Path.{◌≡◌, refl, sym, ap, ◌∙◌}
use mathlib.Core.Bool.{true}
use mathlib.Core.Logic.{◌⊎◌, inl, inr, ⊎_elim}
use mathlib.Core.List.{List, [], ◌∷◌}
use lib.Dec.{eqb}
use lib.ListN.{get_or}
use borrow.Author.Tests.{eqb-true, eqb-false, eq-eqb}
use Rattle.rules.specs.Acting.{ActsFor, sets_client, ClientKept}
use Rattle.rules.specs.AdjustDefaults as AdjustDefaults
use Rattle.rules.specs.AdjustGroups as AdjustGroups
use Rattle.rules.specs.AdjustPrivileges as AdjustPrivileges
use Rattle.rules.specs.AdjustScope as AdjustScope
use Rattle.rules.specs.Basic.{change_at}
use Rattle.rules.specs.Create as Create
use Rattle.rules.specs.Decision.{with_handle, issued}
use Rattle.rules.specs.Duplicate as Duplicate
use Rattle.rules.specs.Evaluate as Evaluate
use Rattle.rules.specs.Growth.{Live, Mem, here, there}
use Rattle.rules.specs.Impersonate as Impersonate
use Rattle.rules.specs.Install as Install
use Rattle.rules.specs.Link as Link
use Rattle.rules.specs.Ladder.{status}
use Rattle.rules.specs.Number.{Read, got, bad}
use Rattle.rules.specs.OpenClose as OpenClose
use Rattle.rules.specs.Privileges.{tcb}
use Rattle.rules.specs.Query as Query
use Rattle.rules.specs.Request.{parse, Request}
use Rattle.rules.specs.Restrict as Restrict
use Rattle.rules.specs.Run.{Serving, served_by}
use Rattle.rules.specs.Serve.{rule, decided, decision, serve}
use Rattle.rules.specs.State.{State, with_tokens, with_handles, with_stations, with_pairs, held, set_pair, station_at, change_station, set_token, client_at, set_client, number_of, put_token, change_token, used, add_token, add_handle, drop_handle, client_token, entering, with_sids, released}
use Rattle.rules.specs.Station.{Station, Client, no_client, start_station, with_token, with_client}
use Rattle.rules.specs.Table.{lives}
use Rattle.rules.specs.Token.{Token}
use Rattle.rules.proofs.Logic.{not_both, either, map_mem, mem_map}
use Rattle.rules.proofs.Tables.{on_if}
use Rattle.rules.proofs.Facts.{Loose}
use Rattle.rules.proofs.Changes.{by_client}
use Rattle.rules.proofs.Steps.{Ends, ended, install_marked, client_marked}
use Rattle.rules.proofs.Ladder.{ladder}

-- ---- on a valid state

module _ (σ : State) (l : Loose σ) where
  unfoldable NoneOrLive : Client → Type 0
  NoneOrLive c = (c ≡ no_client) ⊎ ActsFor σ c

  of_station : (x : Station) → Mem x σ.stations → NoneOrLive x.client
  unfolding NoneOrLive client_token no_client Live number_of
  of_station x m =
      ⊎_elim (λ e. let none = eqb-true x.client.token 0 e in inl (λ i. record { token = none i; level = l.idle x m none i }))
      (λ e. let some = eqb-false x.client.token 0 e in
      let r = mem_map number_of (lives σ.tokens.slots) (l.live (client_token x) (by_client σ (map_mem client_token m) (omega (arith, some)))) in
      let a = l.clients r.0 r.1 x m r.2 in
      inr (record { token = r.0; live = r.1; number = sym r.2; type = a.type; level = a.level }))
      (either (eqb x.client.token 0))

  at_index : (xs : List Station) (i : ℕ) → ((x : Station) → Mem x xs → NoneOrLive x.client) → NoneOrLive (get_or xs i start_station).client
  unfolding start_station NoneOrLive
  at_index [] i h = inl refl
  at_index (x ∷ xs) zero h = h x (here refl)
  at_index (x ∷ xs) (suc i) h = at_index xs i (λ y m. h y (there m))

  pub acting : (s : ℕ) → (client_at σ s ≡ no_client) ⊎ ActsFor σ (client_at σ s)
  unfolding client_at station_at NoneOrLive
  acting s = at_index σ.stations s of_station

-- ---- one request

-- a change of station s that leaves its client alone
same_client : (xs : List Station) (s k : ℕ) (f : Station → Station) → ((x : Station) → (f x).client ≡ x.client) → (get_or (change_at s f xs) k start_station).client ≡ (get_or xs k start_station).client
unfolding change_at
same_client [] s k f e = refl
same_client (x ∷ xs) zero zero f e = e x
same_client (x ∷ xs) zero (suc k) f e = refl
same_client (x ∷ xs) (suc s) zero f e = refl
same_client (x ∷ xs) (suc s) (suc k) f e = same_client xs s k f e

other_station : (xs : List Station) (s k : ℕ) (f : Station → Station) → ((get_or (change_at s f xs) k start_station).client ≡ (get_or xs k start_station).client) ⊎ (k ≡ s)
unfolding change_at
other_station [] s k f = inl refl
other_station (x ∷ xs) zero zero f = inr refl
other_station (x ∷ xs) zero (suc k) f = inl refl
other_station (x ∷ xs) (suc s) zero f = inl refl
other_station (x ∷ xs) (suc s) (suc k) f = ⊎_elim (λ e. inl e) (λ e. inr (ap suc e)) (other_station xs s k f)

module _ (d : State) (s : ℕ) where
  unfoldable Leaves : Read Request → State → Type 0
  Leaves r e = (k : ℕ) → (client_at e k ≡ client_at d k) ⊎ ((k ≡ s) × (sets_client r ≡ true))

  unfoldable SameStations : State → Type 0
  SameStations e = e.stations ≡ d.stations

  -- used marks change no station
  install_marks : (t : Token) → SameStations (Install.marked s t d)
  unfolding SameStations used change_token put_token with_tokens
  install_marks t = install_marked SameStations d s t refl refl

  client_marks : (t : Token) → SameStations (Impersonate.marked s t d)
  unfolding SameStations used change_token put_token with_tokens
  client_marks t = client_marked SameStations d s t refl refl

  installs : (t : Token) (n k : ℕ) → client_at (released (set_token s n (Install.marked s t d))) k ≡ client_at d k
  unfolding client_at station_at released set_token change_station with_stations with_tokens with_token SameStations
  installs t n k = ap (λ xs. (get_or (change_at s (with_token n) xs) k start_station).client) (install_marks t) ∙ same_client d.stations s k (with_token n) (λ x. refl)

  sets : (e : State) (c : Client) (r : Read Request) → SameStations e → sets_client r ≡ true → Leaves r (released (set_client s c e))
  unfolding Leaves client_at station_at released set_client change_station with_stations with_tokens SameStations
  sets e c r same q k = ⊎_elim (λ h. inl (ap (λ xs. (get_or (change_at s (with_client c) xs) k start_station).client) same ∙ h)) (λ h. inr (h, q)) (other_station d.stations s k (with_client c))

  leaves : (r : Read Request) → Ends (Leaves r) (decided d s r)
  unfolding decided rule Ends Leaves sets_client SameStations client_at station_at with_handle issued OpenClose.open_own OpenClose.close Create.create Create.create_numbered entering with_sids Query.query AdjustPrivileges.adjust AdjustGroups.adjust AdjustScope.scope AdjustDefaults.adjust Duplicate.duplicate Restrict.restrict Restrict.restrict_numbered Install.install Impersonate.impersonate Impersonate.revert Link.with_both Link.link Link.linked Link.get_linked Evaluate.evaluate released add_token add_handle drop_handle set_pair with_pairs with_handles with_tokens used change_token put_token
  leaves bad = λ h. absurd (not_both h refl)
  leaves (got (Request.open_own mask) bytes) = λ ok room k. inl refl
  leaves (got (Request.close n) bytes) = λ known k. inl refl
  leaves (got (Request.create u e i p b gs) bytes) = λ may ok room k. inl refl
  leaves (got (Request.query n class capacity) bytes) = λ known may ok fits k. inl refl
  leaves (got (Request.privileges n es) bytes) = λ known may ok k. inl refl
  leaves (got (Request.groups n es) bytes) = λ known may ok free k. inl refl
  leaves (got (Request.scope n v) bytes) = λ known may held k. inl refl
  leaves (got (Request.defaults n o g x dacl) bytes) = λ known may ok k. inl refl
  leaves (got (Request.duplicate n type level mask) bytes) = λ known may ok room k. inl refl
  leaves (got (Request.restrict n mark removed deny sids) bytes) = λ known may ok room k. inl refl
  leaves (got (Request.install n) bytes) = λ known may held ok match k. inl (installs _ _ k)
  leaves (got (Request.impersonate n) bytes) = λ known may ok gate. sets _ _ (got (Request.impersonate n) bytes) (client_marks _) refl
  leaves (got Request.revert bytes) = sets d no_client (got Request.revert bytes) refl refl
  leaves (got (Request.link n m session) bytes) = λ known may held ok room k. inl refl
  leaves (got (Request.linked n) bytes) = λ known may paired.
      on_if (Ends (Leaves (got (Request.linked n) bytes))) (held d s tcb) _ _ (λ t room k. inl refl) (λ t room k. inl refl)
  leaves (got (Request.evaluate n c) bytes) = λ known may ok k. inl refl

-- ---- one body

pub client_kept : (x : Serving) (k : ℕ) → ClientKept x k
unfolding ClientKept served_by serve decision Leaves
client_kept x k =
    let d = x.before in
    let r = parse x.body in
    let answer = status (served_by x) in
    ⊎_elim
    (λ z. ⊎_elim (λ e. inl e) (λ q. inr (record { station = q.0; request = q.1; succeeds = eqb-true answer 0 z }))
    (ended (Leaves d x.station r) d (decided d x.station r) (λ j. inl refl) (leaves d x.station r) k))
    (λ z. inl (ap (λ (e : State). client_at e k) ((ladder d x.station x.body).unchanged (λ q. not_both (eq-eqb answer 0 q) z))))
    (either (eqb answer 0))
