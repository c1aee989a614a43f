-- A body that is served leaves every station's pending bytes as they are: what a rule changes of a station is its token, or the one that it acts for. Assumes nothing.
use Prim.Native.Nat.{ℕ, zero, suc}
use mathlib.Core.Path.{◌≡◌, refl, ap, ◌∙◌}
use mathlib.Core.Bool.{true, false}
use mathlib.Core.List.{List, [], ◌∷◌, ◌++◌}
use Rattle.table.specs.Lists.{pad}
use Rattle.table.specs.Table.{flat}
use Rattle.rules.specs.Basic.{change_at}
use Rattle.rules.specs.Number.{Read, got, bad}
use Rattle.rules.specs.Token.{Token}
use Rattle.rules.specs.Station.{Station, with_token, with_client}
use Rattle.rules.specs.State.{State, with_sids, entering, with_tokens, with_handles, with_stations, change_station, set_token, set_client, put_token, change_token, used, add_token, add_handle, drop_handle, with_pairs, set_pair, held, released}
use Rattle.rules.specs.Memory.{pending_bytes, pending_row}
use Rattle.rules.specs.Decision.{Decision, need◌else◌then◌, success, carried_out, with_handle, issued}
use Rattle.rules.specs.Request.{Request, parse}
use Rattle.rules.specs.Serve.{rule, decided, decision, serve}
use Rattle.rules.specs.OpenClose as OpenClose
use Rattle.rules.specs.Create as Create
use Rattle.rules.specs.Query as Query
use Rattle.rules.specs.AdjustPrivileges as AdjustPrivileges
use Rattle.rules.specs.AdjustGroups as AdjustGroups
use Rattle.rules.specs.AdjustScope as AdjustScope
use Rattle.rules.specs.AdjustDefaults as AdjustDefaults
use Rattle.rules.specs.Duplicate as Duplicate
use Rattle.rules.specs.Restrict as Restrict
use Rattle.rules.specs.Install as Install
use Rattle.rules.specs.Impersonate as Impersonate
use Rattle.rules.specs.Link as Link
use Rattle.rules.specs.Evaluate as Evaluate
use Rattle.rules.specs.Privileges.{tcb}
use Rattle.rules.proofs.Tables.{on_if}
use Rattle.rules.proofs.Steps.{install_marked, client_marked}

abbrev rows : State → List ℕ
rows σ = flat pending_row σ.stations

-- a change of a station but for its pending bytes
same_pending : (f : Station → Station) → ((x : Station) → (f x).pending ≡ x.pending) → (s : ℕ) (xs : List Station) → flat pending_row (change_at s f xs) ≡ flat pending_row xs
unfolding flat change_at pending_row
same_pending f e s [] = refl
same_pending f e zero (x ∷ xs) = ap (λ (bytes : List ℕ). pad pending_bytes bytes ++ flat pending_row xs) (e x)
same_pending f e (suc s) (x ∷ xs) = ap (λ (ws : List ℕ). pending_row x ++ ws) (same_pending f e s xs)

module _ (σ : State) (s : ℕ) (t : Token) where
  -- used marks change no station
  install_stations : (Install.marked s t σ).stations ≡ σ.stations
  unfolding used change_token put_token with_tokens
  install_stations = install_marked (λ τ. τ.stations ≡ σ.stations) σ s t refl refl

  client_stations : (Impersonate.marked s t σ).stations ≡ σ.stations
  unfolding used change_token put_token with_tokens
  client_stations = client_marked (λ τ. τ.stations ≡ σ.stations) σ s t refl refl

-- where the checks pass, the effect keeps the rows
Keeps : State → Decision → Type 0
Keeps σ (need◌else◌then◌ b r rest) = Keeps σ rest
Keeps σ (success τ bytes) = rows τ ≡ rows σ

by_rule : (σ : State) (s : ℕ) (r : Request) → Keeps σ (rule σ s r)
unfolding Keeps rule with_handle issued OpenClose.open_own OpenClose.close Create.create Create.create_numbered entering with_sids Query.query AdjustPrivileges.adjust AdjustGroups.adjust AdjustScope.scope AdjustDefaults.adjust Duplicate.duplicate Restrict.restrict Restrict.restrict_numbered Install.install Impersonate.impersonate Impersonate.revert Link.with_both Link.linked Link.link Link.get_linked Evaluate.evaluate with_pairs set_pair with_tokens with_handles with_stations change_station set_token set_client with_token with_client put_token change_token used add_token add_handle drop_handle released
by_rule σ s (Request.open_own mask) = refl
by_rule σ s (Request.close n) = refl
by_rule σ s (Request.create user session integrity present by_default gs) = refl
by_rule σ s (Request.query n class capacity) = refl
by_rule σ s (Request.privileges n es) = refl
by_rule σ s (Request.groups n es) = refl
by_rule σ s (Request.scope n v) = refl
by_rule σ s (Request.defaults n owner group flag bytes) = refl
by_rule σ s (Request.duplicate n type level mask) = refl
by_rule σ s (Request.restrict n mark removed deny sids) = refl
by_rule σ s (Request.install n) = same_pending (with_token _) (λ x. refl) s _ ∙ ap (flat pending_row) (install_stations σ s _)
by_rule σ s (Request.impersonate n) = same_pending (with_client _) (λ x. refl) s _ ∙ ap (flat pending_row) (client_stations σ s _)
by_rule σ s Request.revert = same_pending (with_client _) (λ x. refl) s _
by_rule σ s (Request.link n m session) = refl
by_rule σ s (Request.linked n) = on_if (Keeps σ) (held σ s tcb) _ _ (λ t. refl) (λ t. refl)
by_rule σ s (Request.evaluate n c) = refl

by_read : (σ : State) (s : ℕ) (r : Read Request) → Keeps σ (decided σ s r)
unfolding decided Keeps
by_read σ s bad = refl
by_read σ s (got r bytes) = by_rule σ s r

finished : (σ : State) (x : Decision) → Keeps σ x → rows (carried_out σ x).state ≡ rows σ
unfolding carried_out Keeps
finished σ (need◌else◌then◌ true r rest) k = finished σ rest k
finished σ (need◌else◌then◌ false r rest) k = refl
finished σ (success τ bytes) k = k

pub served_rows : (σ : State) (s : ℕ) (body : List ℕ) → flat pending_row (serve σ s body).state.stations ≡ flat pending_row σ.stations
unfolding serve decision
served_rows σ s body = finished σ (decision σ s body) (by_read σ s (parse body))
