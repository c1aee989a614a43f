-- The ladder of refusals: every request checks in the order of the refusals' ranks, so the first check that fails is the one of lowest rank.
-- Assumes nothing.
use Prim.Native.Nat.{ℕ, suc, ◌≤◌}
use native.Mathlib.Omega.{arith}
use mathlib.Core.Path.{◌≡◌, refl, sym, ap}
use mathlib.Core.Bool.{Bool, true, false, not, ◌&&◌}
use mathlib.Core.Logic.{◌⊎◌, inl, inr, ⊎_elim}
use mathlib.Core.List.{List, [], ◌∷◌}
use lib.Dec.{eqb, leb}
use borrow.Author.Tests.{eqb-true, eq-eqb, leb-true}
use Rattle.std.specs.Prelude.{if◌then◌else◌}
use Rattle.rules.specs.Basic.{filter, member}
use Rattle.rules.specs.Number.{Read, got, bad}
use Rattle.rules.specs.Refusal.{Refusal, refusal, capacity_below, ranks}
use Rattle.rules.specs.Privileges.{tcb}
use Rattle.rules.specs.State.{State, entering, with_sids, held}
use Rattle.rules.specs.Decision.{Decision, need◌else◌then◌, success, carried_out, with_handle, issued}
use Rattle.rules.specs.Request.{Request, parse}
use Rattle.rules.specs.OpenClose as OpenClose
use Rattle.rules.specs.Create as Create
use Rattle.rules.specs.Query as Query
use Rattle.rules.specs.AdjustPrivileges as AdjustPrivileges
use Rattle.rules.specs.AdjustGroups as AdjustGroups
use Rattle.rules.specs.AdjustScope as AdjustScope
use Rattle.rules.specs.AdjustDefaults as AdjustDefaults
use Rattle.rules.specs.Duplicate as Duplicate
use Rattle.rules.specs.Restrict as Restrict
use Rattle.rules.specs.Install as Install
use Rattle.rules.specs.Impersonate as Impersonate
use Rattle.rules.specs.Link as Link
use Rattle.rules.specs.Evaluate as Evaluate
use Rattle.rules.specs.Serve.{rule, decided, decision, serve}
use Rattle.rules.specs.Ladder.{failing, first_of, status, Ladder}
use Rattle.rules.specs.Growth.{Mem, here, there}
use Rattle.rules.proofs.Logic.{and_l, and_r, not_both, either, member_mem, mem_member}
use Rattle.rules.proofs.Tables.{on_if}

-- a number's place among the ranks
place : List ℕ → ℕ → ℕ
place [] n = 0
place (r ∷ rs) n = if eqb r n then 0 else suc (place rs n)

rank : ℕ → ℕ
rank n = place ranks n

-- the order of the ranks is that of the numbers, but for 14
pub but_for_14 : filter (λ n. not (eqb n 14)) ranks ≡ 1 ∷ 2 ∷ 3 ∷ 4 ∷ 5 ∷ 6 ∷ 7 ∷ 8 ∷ 9 ∷ []
unfolding filter
but_for_14 = refl

-- the checks have ranks, which rise from k on
rises : ℕ → Decision → Bool
rises k (need◌else◌then◌ b r rest) = member r.number ranks && leb k (rank r.number) && rises (rank r.number) rest
rises k (success after bytes) = true

-- ---- of every request

in_order : (σ : State) (s : ℕ) (r : Request) → rises 0 (rule σ s r) ≡ true
unfolding rises rank place member rule refusal capacity_below with_handle issued OpenClose.open_own OpenClose.close Create.create Create.create_numbered entering with_sids Query.query AdjustPrivileges.adjust AdjustGroups.adjust AdjustScope.scope AdjustDefaults.adjust Duplicate.duplicate Restrict.restrict Restrict.restrict_numbered Install.install Impersonate.impersonate Impersonate.revert Link.with_both Link.link Link.get_linked Evaluate.evaluate
in_order σ s (Request.open_own mask) = refl
in_order σ s (Request.close n) = refl
in_order σ s (Request.create user session integrity present by_default gs) = refl
in_order σ s (Request.query n class capacity) = refl
in_order σ s (Request.privileges n es) = refl
in_order σ s (Request.groups n es) = refl
in_order σ s (Request.scope n v) = refl
in_order σ s (Request.defaults n owner group flag bytes) = refl
in_order σ s (Request.duplicate n type level mask) = refl
in_order σ s (Request.restrict n mark removed deny sids) = refl
in_order σ s (Request.install n) = refl
in_order σ s (Request.impersonate n) = refl
in_order σ s Request.revert = refl
in_order σ s (Request.link n m session) = refl
in_order σ s (Request.linked n) = on_if (λ x. rises (rank 14) x ≡ true) (held σ s tcb) _ _ (λ t. refl) (λ t. refl)
in_order σ s (Request.evaluate n c) = refl

of_body : (σ : State) (s : ℕ) (r : Read Request) → rises 0 (decided σ s r) ≡ true
unfolding decided rises rank place member refusal
of_body σ s bad = refl
of_body σ s (got r bytes) = in_order σ s r

-- ---- of checks that rise

record Next (k n : ℕ) (rest : Decision) : Type 0 where
  is_ranked : member n ranks ≡ true
  low : k ≤ rank n
  onward : rises (rank n) rest ≡ true

next : (k n : ℕ) (rest : Decision) → (member n ranks && leb k (rank n) && rises (rank n) rest) ≡ true → Next k n rest
next k n rest h = record { is_ranked = search (and_l, and_r); low = leb-true k (rank n) (search (and_l, and_r)); onward = search (and_l, and_r) }

above : (k : ℕ) (x : Decision) → rises k x ≡ true → (n : ℕ) → Mem n (failing x) → k ≤ rank n
unfolding rises failing
above k (success _ _) h n m = elim m [ ]
above k (need◌else◌then◌ true r rest) h n m = let q = next k r.number rest h in let high = above (rank r.number) rest q.onward n m in omega arith
above k (need◌else◌then◌ false r rest) h n (here e) = rw e (next k r.number rest h).low
above k (need◌else◌then◌ false r rest) h n (there m) = let q = next k r.number rest h in let high = above (rank r.number) rest q.onward n m in omega arith

-- a number is the first of those whose places are not before its own
first_is : (rs : List ℕ) (k : ℕ) (ns : List ℕ) → Mem k rs → ((n : ℕ) → Mem n ns → place rs k ≤ place rs n) → first_of rs (k ∷ ns) ≡ k
unfolding first_of place
first_is [] k ns m h = elim m [ ]
first_is (r ∷ rs) k ns m h = by (member r (k ∷ ns)) refl (first_is rs k ns)
  where
    at_first : (b : Bool) → (if b then 0 else suc (place rs k)) ≤ 0 → b ≡ true
    at_first true l = refl
    at_first false l = absurd (omega arith)

    among : Mem r (k ∷ ns) → r ≡ k
    among (here e) = e
    among (there i) = eqb-true r k (at_first (eqb r k) (rw (eq-eqb r r refl) at (h r i)))

    other : member r (k ∷ ns) ≡ false → {n : ℕ} → Mem n (k ∷ ns) → eqb r n ≡ false
    other e {n} i = ⊎_elim (λ t. absurd (not_both (mem_member {n = r} {xs = k ∷ ns} (rw (eqb-true r n t) i)) e)) (λ f. f) (either (eqb r n))

    later : member r (k ∷ ns) ≡ false → Mem k (r ∷ rs) → Mem k rs
    later e (here q) = absurd (not_both (mem_member (here (sym q))) e)
    later e (there i) = i

    by : (b : Bool) → member r (k ∷ ns) ≡ b → (Mem k rs → ((n : ℕ) → Mem n ns → place rs k ≤ place rs n) → first_of rs (k ∷ ns) ≡ k) → (if b then r else first_of rs (k ∷ ns)) ≡ k
    by true e onward = among (member_mem r (k ∷ ns) e)
    by false e onward = onward (later e m) (λ n i. let l = rw (other e (here refl), other e (there i)) at (h n i) in omega arith)

lowest_first : (σ : State) (k : ℕ) (x : Decision) → rises k x ≡ true → status (carried_out σ x) ≡ first_of ranks (failing x)
unfolding rises failing carried_out status first_of member rank
lowest_first σ k (need◌else◌then◌ true r rest) h = lowest_first σ (rank r.number) rest (next k r.number rest h).onward
lowest_first σ k (need◌else◌then◌ false r rest) h =
    let q = next k r.number rest h in sym (first_is ranks r.number (failing rest) (member_mem r.number ranks q.is_ranked) (above (rank r.number) rest q.onward))
lowest_first σ k (success after bytes) h = refl

passes : (σ : State) (k : ℕ) (x : Decision) → rises k x ≡ true → status (carried_out σ x) ≡ 0 → failing x ≡ []
unfolding rises failing carried_out status member
passes σ k (need◌else◌then◌ true r rest) h e = passes σ (rank r.number) rest (next k r.number rest h).onward e
passes σ k (need◌else◌then◌ false r rest) h e = absurd (not_both (next k r.number rest h).is_ranked (ap (λ (n : ℕ). member n ranks) e))
passes σ k (success after bytes) h e = refl

unchanged : (σ : State) (x : Decision) → (status (carried_out σ x) ≡ 0 → ⊥) → (carried_out σ x).state ≡ σ
unfolding carried_out status
unchanged σ (need◌else◌then◌ true r rest) h = unchanged σ rest h
unchanged σ (need◌else◌then◌ false r rest) h = refl
unchanged σ (success after bytes) h = absurd (h refl)

pub ladder : (σ : State) (s : ℕ) (body : List ℕ) → Ladder σ s body
unfolding serve decision
ladder σ s body =
    let rising = of_body σ s (parse body) in
    record {
      lowest_first = lowest_first σ 0 (decided σ s (parse body)) rising;
      passes = passes σ 0 (decided σ s (parse body)) rising;
      unchanged = unchanged σ (decided σ s (parse body));
    }

-- a body succeeds, or changes nothing
pub succeeds_or_same : (σ : State) (s : ℕ) (body : List ℕ) → (status (serve σ s body) ≡ 0) ⊎ ((serve σ s body).state ≡ σ)
succeeds_or_same σ s body =
    let n = status (serve σ s body) in
    ⊎_elim (λ e. inl (eqb-true n 0 e)) (λ e. inr ((ladder σ s body).unchanged (λ z. not_both (eq-eqb n 0 z) e))) (either (eqb n 0))

-- where no check fails, the first passes, and no later one fails
pub none_fails : (b : Bool) (r : Refusal) (rest : Decision) → failing (need b else r then rest) ≡ [] → (b ≡ true) × (failing rest ≡ [])
unfolding failing
none_fails true r rest h = (refl, h)
none_fails false r rest h = absurd (let z : ◌≡◌ {A = ℕ} 0 1 = cc in omega arith)

-- ---- every status is on the list

first_listed : (rs ns : List ℕ) → Mem (first_of rs ns) (0 ∷ rs)
unfolding first_of
first_listed [] ns = here refl
first_listed (r ∷ rs) ns = on_if (λ (n : ℕ). Mem n (0 ∷ r ∷ rs)) (member r ns) _ _ (λ t. there (here refl)) (λ t. further (first_listed rs ns))
  where
    further : {n : ℕ} → Mem n (0 ∷ rs) → Mem n (0 ∷ r ∷ rs)
    further (here e) = here e
    further (there m) = there (there m)

pub served_status : (σ : State) (s : ℕ) (body : List ℕ) → Mem (status (serve σ s body)) (0 ∷ ranks)
served_status σ s body = rw (ladder σ s body).lowest_first (first_listed ranks _)
