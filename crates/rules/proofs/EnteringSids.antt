-- A success enters the SIDs that its request gives, and a refusal none. Assumes nothing.
use Prim.Native.Nat.{ℕ}
use mathlib.Core.Path.{◌≡◌, refl, ap}
use mathlib.Core.Bool.{true, false}
use mathlib.Core.List.{[]}
use Rattle.rules.specs.AdjustDefaults as AdjustDefaults
use Rattle.rules.specs.AdjustGroups as AdjustGroups
use Rattle.rules.specs.AdjustPrivileges as AdjustPrivileges
use Rattle.rules.specs.AdjustScope as AdjustScope
use Rattle.rules.specs.Create as Create
use Rattle.rules.specs.Decision.{Decision, need◌else◌then◌, success, carried_out, with_handle, issued}
use Rattle.rules.specs.Duplicate as Duplicate
use Rattle.rules.specs.Entering.{given_by, SidsEntered}
use Rattle.rules.specs.Evaluate as Evaluate
use Rattle.rules.specs.Given.{entered_all}
use Rattle.rules.specs.Impersonate as Impersonate
use Rattle.rules.specs.Install as Install
use Rattle.rules.specs.Ladder.{failing}
use Rattle.rules.specs.Link as Link
use Rattle.rules.specs.Number.{Read, got, bad}
use Rattle.rules.specs.OpenClose as OpenClose
use Rattle.rules.specs.Privileges.{tcb}
use Rattle.rules.specs.Query as Query
use Rattle.rules.specs.Request.{parse, Request}
use Rattle.rules.specs.Restrict as Restrict
use Rattle.rules.specs.Run.{Serving, served_by}
use Rattle.rules.specs.Serve.{rule, decided, decision, serve}
use Rattle.rules.specs.State.{State, with_tokens, with_handles, with_stations, with_pairs, with_sids, entering, change_station, set_token, set_client, set_pair, held, put_token, change_token, used, add_token, add_handle, drop_handle, released}
use Rattle.rules.specs.Token.{Token}
use Rattle.rules.proofs.Logic.{not_both}
use Rattle.rules.proofs.Tables.{on_if}
use Rattle.rules.proofs.Steps.{Ends, install_marked, client_marked}
use Rattle.rules.proofs.Ladder.{ladder, none_fails}

-- where no check fails, the effect's state is the one after it
done : (P : State → Type 0) (d : State) (x : Decision) → failing x ≡ [] → Ends P x → P (carried_out d x).state
unfolding failing Ends carried_out
done P d (need◌else◌then◌ true r rest) h k = done P d rest h (k refl)
done P d (need◌else◌then◌ false r rest) h k = absurd (let z = (none_fails false r rest h).0 in not_both z refl)
done P d (success e bytes) h k = k

module _ (d : State) (s : ℕ) where
  unfoldable Entered : Read Request → State → Type 0
  Entered r e = e.sids ≡ entered_all (given_by r) d.sids

  unfoldable Same : State → Type 0
  Same e = e.sids ≡ d.sids

  install_marks : (t : Token) → Same (Install.marked s t d)
  unfolding Same used change_token put_token with_tokens
  install_marks t = install_marked Same d s t refl refl

  client_marks : (t : Token) → Same (Impersonate.marked s t d)
  unfolding Same used change_token put_token with_tokens
  client_marks t = client_marked Same d s t refl refl

  enters : (r : Read Request) → Ends (Entered r) (decided d s r)
  unfolding decided rule Ends Entered Same given_by entered_all with_handle issued OpenClose.open_own OpenClose.close Create.create Create.create_numbered entering with_sids Query.query AdjustPrivileges.adjust AdjustGroups.adjust AdjustScope.scope AdjustDefaults.adjust Duplicate.duplicate Restrict.restrict Restrict.restrict_numbered Install.install Impersonate.impersonate Impersonate.revert Link.with_both Link.link Link.linked Link.get_linked Evaluate.evaluate set_pair with_pairs released add_token add_handle drop_handle set_token set_client change_station with_handles with_tokens with_stations used change_token put_token
  enters bad = λ h. absurd (not_both h refl)
  enters (got (Request.open_own mask) bytes) = λ ok room. refl
  enters (got (Request.close n) bytes) = λ known. refl
  enters (got (Request.create u e i p b gs) bytes) = λ may ok room. refl
  enters (got (Request.query n class capacity) bytes) = λ known may ok fits. refl
  enters (got (Request.privileges n es) bytes) = λ known may ok. refl
  enters (got (Request.groups n es) bytes) = λ known may ok free. refl
  enters (got (Request.scope n v) bytes) = λ known may held. refl
  enters (got (Request.defaults n o g x dacl) bytes) = λ known may ok. refl
  enters (got (Request.duplicate n type level mask) bytes) = λ known may ok room. refl
  enters (got (Request.restrict n mark removed deny sids) bytes) = λ known may ok room. refl
  enters (got (Request.install n) bytes) = λ known may held ok match. install_marks _
  enters (got (Request.impersonate n) bytes) = λ known may ok gate. client_marks _
  enters (got Request.revert bytes) = refl
  enters (got (Request.link n m session) bytes) = λ known may held ok room. refl
  enters (got (Request.linked n) bytes) =
      λ known may paired. on_if (Ends (Entered (got (Request.linked n) bytes))) (held d s tcb) _ _ (λ t room. refl) (λ t room. refl)
  enters (got (Request.evaluate n c) bytes) = λ known may ok. refl

pub sids_entered : (x : Serving) → SidsEntered x
unfolding served_by serve decision Entered
sids_entered x =
    let d = x.before in
    let s = x.station in
    let l = ladder d s x.body in
    record {
      entered = λ e. done (Entered d s (parse x.body)) d (decided d s (parse x.body)) (l.passes e) (enters d s (parse x.body));
      none = λ z. ap (λ (y : State). y.sids) (l.unchanged z);
    }
