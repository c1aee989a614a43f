-- Linked pairs and elevations change only by request 16. Assumes nothing.
use Prim.Native.Nat.{ℕ}
use mathlib.Core.Path.{◌≡◌, refl, ap, ◌∙◌}
use mathlib.Core.Logic.{◌⊎◌, inl, inr, ⊎_elim}
use mathlib.Core.List.{List}
use Rattle.rules.specs.AdjustDefaults as AdjustDefaults
use Rattle.rules.specs.AdjustGroups as AdjustGroups
use Rattle.rules.specs.AdjustPrivileges as AdjustPrivileges
use Rattle.rules.specs.AdjustScope as AdjustScope
use Rattle.rules.specs.Create as Create
use Rattle.rules.specs.Decision.{with_handle, issued}
use Rattle.rules.specs.Duplicate as Duplicate
use Rattle.rules.specs.Evaluate as Evaluate
use Rattle.rules.specs.Impersonate as Impersonate
use Rattle.rules.specs.Install as Install
use Rattle.rules.specs.Link as Link
use Rattle.rules.specs.Linking.{Links, PairsKept, ElevationKept}
use Rattle.rules.specs.Number.{Read, got, bad}
use Rattle.rules.specs.OpenClose as OpenClose
use Rattle.rules.specs.Privileges.{tcb}
use Rattle.rules.specs.Query as Query
use Rattle.rules.specs.Request.{parse, Request}
use Rattle.rules.specs.Restrict as Restrict
use Rattle.rules.specs.Run.{Serving, served_by}
use Rattle.rules.specs.Serve.{rule, decided, decision, serve}
use Rattle.rules.specs.State.{State, with_tokens, with_handles, with_stations, change_station, set_token, set_client, held, put_token, change_token, used_on, used, add_token, add_handle, drop_handle, entering, with_sids, released}
use Rattle.rules.specs.Token.{Token, with_privileges, with_groups, with_defaults, with_scope, next_modified}
use Rattle.rules.proofs.Logic.{not_both}
use Rattle.rules.proofs.Tables.{on_if}
use Rattle.rules.proofs.Steps.{Ends, ended, install_marked, client_marked}
use Rattle.rules.proofs.Carrying.{Lasting, Or, Allowed, served_alike}
use Rattle.rules.proofs.Ladder.{succeeds_or_same}
use Rattle.rules.proofs.Always.{Onward}

-- ---- request 16, or what leaves pairs alone

pub record IsLink (r : Read Request) : Type 0 where
  pub elevated : ℕ
  pub filtered : ℕ
  pub session : ℕ
  pub bytes : List ℕ
  pub is : r ≡ got (Request.link elevated filtered session) bytes

-- a request 16 succeeds, or changes nothing
served_link : (x : Serving) → IsLink (parse x.body) → ((served_by x).state ≡ x.before) ⊎ Links x
unfolding served_by
served_link x r =
    ⊎_elim (λ done. inr (record { elevated = r.elevated; filtered = r.filtered; session = r.session; bytes = r.bytes; request = r.is; succeeds = done })) (λ same. inl same)
    (succeeds_or_same x.before x.station x.body)

-- ---- pairs

module _ (d : State) (s : ℕ) where
  unfoldable SamePairs : State → Type 0
  SamePairs e = e.pairs ≡ d.pairs

  install_marks : (t : Token) → SamePairs (Install.marked s t d)
  unfolding SamePairs used change_token put_token with_tokens
  install_marks t = install_marked SamePairs d s t refl refl

  client_marks : (t : Token) → SamePairs (Impersonate.marked s t d)
  unfolding SamePairs used change_token put_token with_tokens
  client_marks t = client_marked SamePairs d s t refl refl

  pairs_stay : (r : Read Request) → Ends SamePairs (decided d s r) ⊎ IsLink r
  unfolding decided rule Ends SamePairs with_handle issued OpenClose.open_own OpenClose.close Create.create Create.create_numbered entering with_sids Query.query AdjustPrivileges.adjust AdjustGroups.adjust AdjustScope.scope AdjustDefaults.adjust Duplicate.duplicate Restrict.restrict Restrict.restrict_numbered Install.install Impersonate.impersonate Impersonate.revert Link.get_linked Evaluate.evaluate released add_token add_handle drop_handle set_token set_client change_station with_handles with_tokens with_stations used change_token put_token
  pairs_stay bad = inl (λ h. absurd (not_both h refl))
  pairs_stay (got (Request.open_own mask) bytes) = inl (λ ok room. refl)
  pairs_stay (got (Request.close n) bytes) = inl (λ known. refl)
  pairs_stay (got (Request.create u e i p b gs) bytes) = inl (λ may ok room. refl)
  pairs_stay (got (Request.query n class capacity) bytes) = inl (λ known may ok fits. refl)
  pairs_stay (got (Request.privileges n es) bytes) = inl (λ known may ok. refl)
  pairs_stay (got (Request.groups n es) bytes) = inl (λ known may ok free. refl)
  pairs_stay (got (Request.scope n v) bytes) = inl (λ known may held. refl)
  pairs_stay (got (Request.defaults n o g x dacl) bytes) = inl (λ known may ok. refl)
  pairs_stay (got (Request.duplicate n type level mask) bytes) = inl (λ known may ok room. refl)
  pairs_stay (got (Request.restrict n mark removed deny sids) bytes) = inl (λ known may ok room. refl)
  pairs_stay (got (Request.install n) bytes) = inl (λ known may held ok match. install_marks _)
  pairs_stay (got (Request.impersonate n) bytes) = inl (λ known may ok gate. client_marks _)
  pairs_stay (got Request.revert bytes) = inl refl
  pairs_stay (got (Request.link n m session) bytes) = inr (record { elevated = n; filtered = m; session = session; bytes = bytes; is = refl })
  pairs_stay (got (Request.linked n) bytes) = inl (λ known may paired. on_if (Ends SamePairs) (held d s tcb) _ _ (λ t room. refl) (λ t room. refl))
  pairs_stay (got (Request.evaluate n c) bytes) = inl (λ known may ok. refl)

pub pairs_kept : (x : Serving) → PairsKept x
unfolding PairsKept served_by serve decision SamePairs
pairs_kept x =
    let d = x.before in
    let r = parse x.body in
    ⊎_elim (λ k. inl (ended (SamePairs d x.station) d (decided d x.station r) refl k)) (λ k. ⊎_elim (λ e. inl (ap (λ (y : State). y.pairs) e)) (λ y. inr y) (served_link x k))
    (pairs_stay d x.station r)

-- ---- elevations

unfoldable SameElevation : Token → Token → Type 0
SameElevation t u = u.elevation ≡ t.elevation

lasting : Lasting SameElevation
unfolding SameElevation used_on with_privileges
lasting = record { alike = λ t. refl; onward = λ t u v a b. b ∙ a; marks = λ n t. refl }

-- request 16 alone changes it
elevation_allowed : (x : Serving) → Allowed (Or SameElevation (Links x)) x
unfolding Or SameElevation AdjustPrivileges.adjusted_token AdjustGroups.adjusted_token AdjustScope.scoped_token AdjustDefaults.adjusted_token with_privileges with_groups with_defaults with_scope next_modified
elevation_allowed x done r bytes e = record {
  privileges = λ n es q t k. inl refl;
  groups = λ n es q t k. inl refl;
  scope = λ n v q t k. inl refl;
  defaults = λ n o g x dacl q t k. inl refl;
  link = λ n m session q.
      let y : Links x = record { elevated = n; filtered = m; session = session; bytes = bytes; request = e ∙ ap (λ (r : Request). got r bytes) q; succeeds = done } in
      (λ t k. inr y, λ t k. inr y);
}

pub elevation_kept : (x : Serving) → Onward x → ElevationKept x
unfolding ElevationKept SameElevation
elevation_kept x o = served_alike SameElevation (Links x) lasting x o (elevation_allowed x)
