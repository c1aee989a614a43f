-- Every token's root: none, or that of a token that was there, or the number that was given to a created one. Assumes nothing.
use Prim.Native.Nat.{ℕ, ◌≤◌}
use native.Mathlib.Omega.{arith}
use mathlib.Core.Path.{◌≡◌, refl, sym, ap, ◌∙◌, subst}
use mathlib.Core.Bool.{Bool, true, false}
use mathlib.Core.Logic.{⊎_elim}
use mathlib.Core.List.{List, [], ◌∷◌, map}
use lib.Dec.{ltb}
use borrow.Author.Tests.{ltb-true, ltb-false}
use Rattle.rules.specs.Given.{Given, GivenGroup, group_sid}
use Rattle.rules.specs.AdjustDefaults as AdjustDefaults
use Rattle.rules.specs.AdjustGroups as AdjustGroups
use Rattle.rules.specs.AdjustPrivileges as AdjustPrivileges
use Rattle.rules.specs.AdjustScope as AdjustScope
use Rattle.std.specs.Prelude.{if◌then◌else◌}
use Rattle.rules.specs.Basic.{all}
use Rattle.rules.specs.Create as Create
use Rattle.rules.specs.Decision.{with_handle}
use Rattle.rules.specs.Duplicate as Duplicate
use Rattle.rules.specs.Duplicate.{is_anonymous}
use Rattle.rules.specs.Evaluate as Evaluate
use Rattle.rules.specs.Growth.{Creating, Live, Mem, here, there, Source, source_at, partner_at, source_of, Copying, makes_root, Rooted, none, old, created}
use Rattle.rules.specs.Handle.{no_handle, Handle}
use Rattle.rules.specs.Impersonate as Impersonate
use Rattle.rules.specs.Install as Install
use Rattle.rules.specs.Ladder.{status}
use Rattle.rules.specs.Link as Link
use Rattle.rules.specs.Number.{Read, got, bad}
use Rattle.rules.specs.OpenClose as OpenClose
use Rattle.rules.specs.Privileges.{create_token}
use Rattle.rules.specs.Query as Query
use Rattle.rules.specs.Request.{parse, Request}
use Rattle.rules.specs.Restrict as Restrict
use Rattle.rules.specs.Run.{Call, Outcome, Serving, serves, breaks, served_by, after, of_bytes, events, outcomes, OneByOne}
use Rattle.rules.specs.Serve.{rule, decided, decision, serve}
use Rattle.rules.specs.State.{State, with_tokens, with_handles, with_stations, change_station, set_token, set_client, number_of, put_token, change_token, used, find_handle, handle_of, add_handle, drop_handle, with_pairs, pair_of, set_pair, entering, with_sids, released}
use Rattle.rules.specs.Table.{Slot, free, live, is_live, or_else, with_slots}
use Rattle.rules.specs.Token.{Token, new_token, primary_of}
use Rattle.rules.proofs.Logic.{not_both, either, map_mem}
use Rattle.rules.proofs.Facts.{StateFacts}
use Rattle.rules.proofs.Steps.{partner_live, Ends, ended, install_marked, client_marked, enter_found, enter_used}
use Rattle.rules.proofs.Ladder.{succeeds_or_same}
use Rattle.rules.proofs.Always.{Onward, run_serves}
use Rattle.rules.proofs.Sources.{entered_fresh, Fresh, none_fresh, marked_fresh, made, issues, of_serving}
use Rattle.rules.proofs.Bound.{found_here, token_here}

-- ---- one request: it makes no token, or copies one that is there, or makes a root

unfoldable SameNext : State → State → Type 0
SameNext d e = e.tokens.next ≡ d.tokens.next

-- the token is its own root, with d's next number
unfoldable IsRoot : State → Token → Type 0
IsRoot d u = (u.identity.root ≡ u.number) × (u.number ≡ d.tokens.next)

data Gives (d : State) (s : ℕ) (r : Read Request) : Type 0 where
  nothing : makes_root r ≡ false → Ends (SameNext d) (decided d s r) → Gives d s r
  copy : makes_root r ≡ false → (x : Source) → source_of d s r ≡ live x → Live x.token d → Gives d s r
  root : makes_root r ≡ true → Ends (Fresh d (IsRoot d)) (decided d s r) → Gives d s r

module _ (d : State) (f : StateFacts d) (s : ℕ) where
  -- the copy of a handle's token, if the handle is live
  of_handle : (n : ℕ) (b : Bool) (r : Read Request) → makes_root r ≡ false → source_of d s r ≡ source_at d b (find_handle d s n)
      → ((is_live (find_handle d s n) ≡ true → ⊥) → Ends (SameNext d) (decided d s r)) → Gives d s r
  unfolding source_at Live is_live
  of_handle n b r z e refused = go (find_handle d s n) refl
    where
      go : (p : Slot Handle) → find_handle d s n ≡ p → Gives d s r
      go free k = nothing z (refused (λ h. not_both h (ap is_live k)))
      go (live h) k = copy z _ (e ∙ ap (source_at d b) k) (token_here d h f (found_here d s n h k).was).was

  -- the clone of a partner, if there is one
  of_partner : (n : ℕ) (r : Read Request) → makes_root r ≡ false → source_of d s r ≡ partner_at d (find_handle d s n)
      → ((is_live (find_handle d s n) ≡ true → is_live (pair_of d (handle_of d s n).token) ≡ true → ⊥) → Ends (SameNext d) (decided d s r)) → Gives d s r
  unfolding partner_at Live is_live handle_of or_else
  of_partner n r z e refused = go (find_handle d s n) refl
    where
      go : (p : Slot Handle) → find_handle d s n ≡ p → Gives d s r
      go free k = nothing z (refused (λ h. absurd (not_both h (ap is_live k))))
      go (live h) k =
          ⊎_elim (λ y. copy z _ (e ∙ ap (partner_at d) k) (partner_live d h.token f y).was)
          (λ y. nothing z (refused (λ known paired. not_both paired (ap (λ p. is_live (pair_of d (or_else no_handle p).token)) k ∙ y))))
          (either (is_live (pair_of d h.token)))

  creates : (user : Given) (session integrity present by_default : ℕ) (gs : List GivenGroup) → Ends (Fresh d (IsRoot d)) (Create.create d s user session integrity present by_default gs)
  unfolding Create.create Create.create_numbered entering with_sids Ends IsRoot new_token primary_of
  creates user session integrity present by_default gs may ok room =
      let xs = user ∷ map group_sid gs in
      issues d (used create_token s (entering xs d)) (IsRoot d) s _ _ (subst (Fresh d (IsRoot d)) (sym (enter_used xs d create_token s)) (entered_fresh d _ (IsRoot d) xs (marked_fresh d f (IsRoot d) create_token s))) (refl, refl)

  install_marks : (t : Token) → SameNext d (Install.marked s t d)
  unfolding SameNext used change_token put_token with_tokens with_slots
  install_marks t = install_marked (SameNext d) d s t refl refl

  client_marks : (t : Token) → SameNext d (Impersonate.marked s t d)
  unfolding SameNext used change_token put_token with_tokens with_slots
  client_marks t = client_marked (SameNext d) d s t refl refl

  gives : (r : Read Request) → Gives d s r
  unfolding decided rule source_of makes_root Ends SameNext with_handle OpenClose.open_own OpenClose.close Query.query AdjustPrivileges.adjust AdjustGroups.adjust AdjustScope.scope AdjustDefaults.adjust Duplicate.duplicate Restrict.restrict Restrict.restrict_numbered entering with_sids Install.install Impersonate.impersonate Impersonate.revert Link.with_both Link.link Link.linked Link.get_linked Evaluate.evaluate set_pair with_pairs released add_handle drop_handle set_token set_client change_station with_stations with_handles with_tokens with_slots used change_token put_token
  gives bad = nothing refl (λ h. absurd (not_both h refl))
  gives (got (Request.open_own mask) bytes) = nothing refl (λ ok room. refl)
  gives (got (Request.close n) bytes) = nothing refl (λ known. refl)
  gives (got (Request.create u e i p b gs) bytes) = root refl (creates u e i p b gs)
  gives (got (Request.query n class capacity) bytes) = nothing refl (λ known may ok fits. refl)
  gives (got (Request.privileges n es) bytes) = nothing refl (λ known may ok. refl)
  gives (got (Request.groups n es) bytes) = nothing refl (λ known may ok free. refl)
  gives (got (Request.scope n v) bytes) = nothing refl (λ known may held. refl)
  gives (got (Request.defaults n o g x dacl) bytes) = nothing refl (λ known may ok. refl)
  gives (got (Request.duplicate n type level mask) bytes) = of_handle n (is_anonymous type level) _ refl refl (λ no known. absurd (no known))
  gives (got (Request.restrict n mark removed deny sids) bytes) = of_handle n false _ refl refl (λ no known. absurd (no (ap is_live (sym (enter_found sids d s n)) ∙ known)))
  gives (got (Request.install n) bytes) = nothing refl (λ known may held ok match. install_marks _)
  gives (got (Request.impersonate n) bytes) = nothing refl (λ known may ok gate. client_marks _)
  gives (got Request.revert bytes) = nothing refl refl
  gives (got (Request.link n m session) bytes) = nothing refl (λ known may held ok room. refl)
  gives (got (Request.linked n) bytes) = of_partner n _ refl refl (λ no known may paired. absurd (no known paired))
  gives (got (Request.evaluate n c) bytes) = nothing refl (λ known may ok. refl)

-- ---- one body

module _ (x : Serving) (o : Onward x) (xs : List Outcome) where
  -- what makes a token is no refusal
  no_refusal : (u : Token) → Live u (served_by x).state → x.before.tokens.next ≤ u.number → status (served_by x) ≡ 0
  unfolding served_by Live Fresh
  no_refusal u m k =
      let d = x.before in
      ⊎_elim (λ done. done) (λ same. none_fresh d o.facts (λ u. status (served_by x) ≡ 0) u (rw same at m) k) (succeeds_or_same d x.station x.body)

  copied : (y : Source) (n : ℕ) (b : Bool) → Live y.token x.before → n ≡ (if b then 0 else y.token.identity.root) → Rooted x.before (serves x ∷ xs) n
  copied y n true l e = none e
  copied y n false l e = old y.token l (sym e)

  fresh_root : (u : Token) → Live u (served_by x).state → x.before.tokens.next ≤ u.number → Rooted x.before (serves x ∷ xs) u.identity.root
  unfolding served_by serve decision Live Fresh SameNext IsRoot number_of Copying
  fresh_root u m k = go (gives x.before o.facts x.station (parse x.body))
    where
      d : State
      d = x.before

      go : Gives d x.station (parse x.body) → Rooted d (serves x ∷ xs) u.identity.root
      go (nothing z e) =
          let same = ended (SameNext d) d (decision d x.station x.body) refl e in
          absurd (let q = (o.step.facts.loose.tokens.given u.number (map_mem number_of m)).1 in omega arith)
      go (copy z y e l) = copied y _ y.is_anonymous l (of_serving x o.facts y u e m k).root
      go (root e h) = let r = made d o.facts (IsRoot d) (decision d x.station x.body) h u m k in created x (here refl) e (no_refusal u m k) (sym (r.0 ∙ r.1))

  served_root : (u : Token) → Live u (served_by x).state → Rooted x.before (serves x ∷ xs) u.identity.root
  unfolding Live
  served_root u m =
      let n = x.before.tokens.next in
      ⊎_elim (λ e. let b = o.step.later.old u m (ltb-true u.number n e) in old b.token b.was (ap (λ i. i.root) (sym b.follows.identity)))
      (λ e. fresh_root u m (ltb-false u.number n e))
      (either (ltb u.number n))

-- ---- all bodies, one by one

-- the roots after τ, where σ has those of τ
back : {σ τ : State} {xs ys : List Outcome} → ((u : Token) → Live u τ → Rooted σ ys u.identity.root) → ((y : Outcome) → Mem y xs → Mem y ys) → (n : ℕ) → Rooted τ xs n → Rooted σ ys n
back was more n (none e) = none e
back was more n (old u m e) = rw (← e) (was u m)
back was more n (created x m e z q) = created x (more (serves x) m) e z q

rooted : (xs : List Outcome) (σ τ : State) → OneByOne σ xs τ → ((x : Serving) → Mem (serves x) xs → Onward x) → (t : Token) → Live t τ → Rooted σ xs t.identity.root
unfolding OneByOne Live
rooted [] σ τ a h t m = old t (rw a.tokens m) refl
rooted (breaks s ∷ xs) σ τ a h t m = back (λ u k. old u k refl) (λ y k. there k) _ (rooted xs σ τ a (λ x k. h x (there k)) t m)
rooted (serves x ∷ xs) σ τ a h t m =
    let same : (u : Token) → Live u x.before → Rooted σ (serves x ∷ xs) u.identity.root = λ u k. old u (rw a.0.tokens k) refl in
    back (λ u k. back same (λ y i. i) _ (served_root x (h x (here refl)) xs u k)) (λ y k. there k) _ (rooted xs (served_by x).state τ a.1 (λ y k. h y (there k)) t m)

-- what a body makes of none
creating : (x : Serving) → Onward x → Creating x
unfolding Creating served_by serve decision Live Fresh SameNext IsRoot number_of
creating x o u e m k = go (gives x.before o.facts x.station (parse x.body))
  where
    d : State
    d = x.before

    go : Gives d x.station (parse x.body) → u.identity.root ≡ u.number
    go (nothing z h) = absurd (not_both e z)
    go (copy z y h l) = absurd (not_both e z)
    go (root z h) = (made d o.facts (IsRoot d) (decision d x.station x.body) h u m k).0

pub creations : (cs : List Call) (σ : State) → all of_bytes cs ≡ true → StateFacts σ → (x : Serving) → Mem (serves x) (outcomes (events cs σ) σ) → Creating x
creations cs σ w f x m = creating x (run_serves cs σ w f x m)

pub roots : (cs : List Call) (σ : State) → all of_bytes cs ≡ true → StateFacts σ → OneByOne σ (outcomes (events cs σ) σ) (after cs σ)
    → (t : Token) → Live t (after cs σ) → Rooted σ (outcomes (events cs σ) σ) t.identity.root
roots cs σ w f o = rooted (outcomes (events cs σ) σ) σ (after cs σ) o (run_serves cs σ w f)
