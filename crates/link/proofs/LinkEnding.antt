-- Request 16, part by part and end by end: what the calls gave is what the rules decide. Assumes nothing.
use Prim.Native.Nat.{ℕ, ◌<◌}
use mathlib.Core.Path.{◌≡◌, refl, sym, ap, ap₂, ◌∙◌, subst}
use mathlib.Core.Bool.{Bool, true, false, not, ◌&&◌, ◌||◌}
use mathlib.Core.List.{List, [], ◌∷◌}
use lib.Dec.{eqb, ltb}
use borrow.Author.Tests.{lt-ltb}
use Rattle.std.specs.Prelude.{Option, None, Some, unwrap_or, Ok, Err, if◌then◌else◌}
use Rattle.rules.specs.Refusal.{privilege_not_held, bad_field, table_full}
use Rattle.rules.specs.Privileges.{tcb}
use Rattle.rules.specs.Token.{full, limited, with_elevation}
use Rattle.rules.specs.Table.{is_live}
use Rattle.rules.specs.Pair.{is_of}
use Rattle.rules.specs.Index.{free_index, found_index}
use Rattle.rules.specs.State as state
use Rattle.rules.specs.State.{State, station_count, pair_slots, token_of, with_tokens, put_token, change_token, used, find_handle, has_pair, can_link, released}
use Rattle.rules.specs.Valid.{valid}
use Rattle.rules.specs.Link.{with_both, is_of_session, linkable, linked, link}
use Rattle.rules.specs.Decision.{Decision, need◌else◌then◌, success, carried_out}
use Rattle.rules.proofs.Logic.{and_l, and_r}
use Rattle.rules.proofs.Facts.{valid_facts, facts_valid}
use Rattle.rules.proofs.Steps.{Is, found_handle}
use Rattle.rules.proofs.Kept.{link_stages}
use Rattle.handle.specs.declared.Handle.{Handle}
use Rattle.token.specs.declared.Identity.{Identity}
use Rattle.control.specs.Pairs.{pair_of, place_for, PlaceGiven}
use Rattle.control.specs.declared.pairs.Pair.{Pair}
use Rattle.state.specs.Parts.{HandlesIn}
use Rattle.state.specs.TokenCalls.{IdentityGiven, ElevationGiven, WordsChanged, Held, Used}
use Rattle.state.specs.ReleaseFacts.{PartsIn, PairLinked}
use Rattle.state.proofs.FormedLaws.{valid_formed, pairs_back}
use Rattle.state.proofs.Slots.{some_free_lem, some_found}
use Rattle.answer.specs.declared.Answer.TheVariants as answers
use Rattle.answer.specs.declared.refusal.Refusal.{Refusal}
use Rattle.answer.specs.declared.refusal.Refusal.TheVariants as refusal
use Rattle.decide.specs.Carried.{ends, Carried}
use Rattle.decide.proofs.Deciding.{fails, holds, refuses, ends_with, used_parts, changed_parts}
use Rattle.decide.proofs.LookupLaws.{stopped, passed, is_known_lem}
use Rattle.link.specs.Link.{both_live, both_may, PairNamed, of_session, LinkJudged, LinkApplied}

-- ---- the tokens

pub judges : {p : Pair} {ts : List ℕ} {e f : Identity} {x y : ℕ} → IdentityGiven p.elevated ts e → IdentityGiven p.filtered ts f
    → ElevationGiven p.elevated ts x → ElevationGiven p.filtered ts y
    → LinkJudged p ts (of_session p.session e && of_session p.session f && eqb e.user f.user && not (eqb p.elevated p.filtered) && not (eqb x limited) && not (eqb y full))
unfolding linkable is_of_session
judges a b c d = record {
  judged = λ σ v i n m. rw (sym (a.identity σ v i), sym (b.identity σ v i), n, m, sym (c.elevation σ v i), sym (d.elevation σ v i));
}

-- ---- the effect: each state between is valid

same_pairs : (s x y : ℕ) (σ : State) → (change_token y (with_elevation limited) (change_token x (with_elevation full) (used tcb s σ))).pairs ≡ σ.pairs
unfolding used change_token put_token with_tokens
same_pairs s x y σ = refl

pub applies : {s place : ℕ} {p : Pair} {hs : List Handle} {cs ts ds ts₁ ts₂ ts₃ cs' ts' ds' : List ℕ} → s < station_count → Used tcb s ts cs ts₁
    → WordsChanged p.elevated (with_elevation full) ts₁ ts₂ → WordsChanged p.filtered (with_elevation limited) ts₂ ts₃
    → PairLinked place p.session p.elevated p.filtered ts₃ ds hs cs ts' ds' cs' → LinkApplied s place p ts ds hs cs ts' ds' cs'
unfolding linked
applies {s} {p = pair} in8 u a b l = record {
  parts = λ σ v p was number was' number' ok at.
      let x = pair.elevated in
      let y = pair.filtered in
      let g = link_stages σ (valid_facts σ v) s in8 pair.session x y (record { was = was; number = number }) (record { was = was'; number = number' }) ok in
      let σ₁ = used tcb s σ in
      let σ₂ = change_token x (with_elevation full) σ₁ in
      let σ₃ = change_token y (with_elevation limited) σ₂ in
      l.parts σ₃ (facts_valid σ₃ g.lowered) (changed_parts σ₂ (facts_valid σ₂ g.raised) b (changed_parts σ₁ (facts_valid σ₁ g.marked) a (used_parts σ v u p))) g.linked
      (at ∙ ap (place_for pair.session) (sym (same_pairs s x y σ)));
}

-- ---- the place

picked : (x y : ℕ) (b : Bool) → ltb x pair_slots ≡ b → (b || ltb y pair_slots) ≡ ltb (if b then x else y) pair_slots
picked x y true e = sym e
picked x y false e = refl

can_link_lem : (session : ℕ) (σ : State) → valid σ ≡ true → can_link σ session ≡ ltb (place_for session σ.pairs) pair_slots
unfolding can_link has_pair
can_link_lem session σ v =
    let ps = σ.pairs in
    let long = (valid_facts σ v).loose.pairs_sized in
    ap₂ ◌||◌ (some_found (is_of session) ps ∙ ap (ltb (found_index (is_of session) ps)) long) (some_free_lem ps ∙ ap (ltb (free_index ps)) long)
    ∙ picked (found_index (is_of session) ps) (free_index ps) (ltb (found_index (is_of session) ps) pair_slots) refl

-- ---- the decision

-- the rule, once the handles are found
abbrev go : ℕ → State → (session elevated filtered : ℕ) → Decision
go s σ session x y =
    need state.held σ s tcb else privilege_not_held then
    need linkable session (token_of σ x) (token_of σ y) else bad_field then
    need can_link σ session else table_full then
    success (released (linked (pair_of session x y) (used tcb s σ))) []

module _ {s n m session : ℕ} {hs : List Handle} where
  pub link_not_found : {cs ts ds : List ℕ} {e : Refusal} → PairNamed s n m session hs (Err e) → Carried (λ σ. link σ s n m session) ts ds hs cs ts ds cs (Err e)
  unfolding link with_both
  link_not_found {e = e} a = refuses e (λ σ v p. stopped σ (both_live σ s n m) (both_may σ s n m) _ (a.refusal σ v p.handles))

  module _ {x : Pair} (a : PairNamed s n m session hs (Ok x)) where
    module _ (σ : State) (v : valid σ ≡ true) (i : HandlesIn σ hs) where
      known : both_live σ s n m ≡ true
      known = is_known_lem (both_live σ s n m) (both_may σ s n m) (a.refusal σ v i)

      elevated_is : Is σ x.elevated
      elevated_is = subst (Is σ) (sym (a.pair.elevated σ v i)) (found_handle σ s n (valid_facts σ v) (and_l (is_live (find_handle σ s n)) (is_live (find_handle σ s m)) known)).token

      filtered_is : Is σ x.filtered
      filtered_is = subst (Is σ) (sym (a.pair.filtered σ v i)) (found_handle σ s m (valid_facts σ v) (and_r (is_live (find_handle σ s n)) (is_live (find_handle σ s m)) known)).token

      goes_on : carried_out σ (link σ s n m session) ≡ carried_out σ (go s σ x.session x.elevated x.filtered)
      unfolding link with_both
      goes_on = passed σ (both_live σ s n m) (both_may σ s n m) _ (a.refusal σ v i) ∙ rw (a.pair.session, a.pair.elevated σ v i, a.pair.filtered σ v i)

    module _ {cs ts ds : List ℕ} {may : Bool} (h : Held tcb s ts cs may) where
      pub link_not_held : may ≡ false → Carried (λ σ. link σ s n m session) ts ds hs cs ts ds cs (Err refusal.PrivilegeNotHeld)
      link_not_held t = refuses refusal.PrivilegeNotHeld (λ σ v p.
          goes_on σ v p.handles ∙ fails (state.held σ s tcb) σ privilege_not_held _ (ap not (sym (h.held σ v p.tokens p.control) ∙ t)))

      module _ (holder : may ≡ true) {ok : Bool} (j : LinkJudged x ts ok) where
        module _ (σ : State) (v : valid σ ≡ true) (p : PartsIn σ ts ds hs cs) where
          judged : ok ≡ linkable x.session (token_of σ x.elevated) (token_of σ x.filtered)
          judged = j.judged σ v p.tokens (elevated_is σ v p.handles).number (filtered_is σ v p.handles).number

          held : carried_out σ (link σ s n m session)
              ≡ carried_out σ (need linkable x.session (token_of σ x.elevated) (token_of σ x.filtered) else bad_field then need can_link σ x.session else table_full then success (released (linked (pair_of x.session x.elevated x.filtered) (used tcb s σ))) [])
          held = goes_on σ v p.handles ∙ holds (state.held σ s tcb) σ privilege_not_held _ (ap not (sym (h.held σ v p.tokens p.control) ∙ holder))

        pub link_bad : ok ≡ false → Carried (λ σ. link σ s n m session) ts ds hs cs ts ds cs (Err refusal.BadField)
        link_bad t = refuses refusal.BadField (λ σ v p.
            held σ v p ∙ fails (linkable x.session (token_of σ x.elevated) (token_of σ x.filtered)) σ bad_field _ (ap not (sym (judged σ v p) ∙ t)))

        module _ (fit : ok ≡ true) {place : Option ℕ} (g : PlaceGiven x.session cs place) where
          module _ (σ : State) (v : valid σ ≡ true) (p : PartsIn σ ts ds hs cs) where
            place_is : unwrap_or place pair_slots ≡ place_for x.session σ.pairs
            place_is = g.index ∙ ap (place_for x.session) (pairs_back σ (valid_formed σ v) cs p.control)

            room : can_link σ x.session ≡ ltb (unwrap_or place pair_slots) pair_slots
            room = can_link_lem x.session σ v ∙ ap (λ (i : ℕ). ltb i pair_slots) (sym place_is)

            allowed : carried_out σ (link σ s n m session) ≡ carried_out σ (need can_link σ x.session else table_full then success (released (linked (pair_of x.session x.elevated x.filtered) (used tcb s σ))) [])
            allowed = held σ v p ∙ holds (linkable x.session (token_of σ x.elevated) (token_of σ x.filtered)) σ bad_field _ (ap not (sym (judged σ v p) ∙ fit))

          pub link_full : place ≡ None → Carried (λ σ. link σ s n m session) ts ds hs cs ts ds cs (Err refusal.TableFull)
          link_full t = refuses refusal.TableFull (λ σ v p. allowed σ v p ∙ fails (can_link σ x.session) σ table_full _ (ap not (room σ v p ∙ ap (λ (o : Option ℕ). ltb (unwrap_or o pair_slots) pair_slots) t)))

          module _ {k : ℕ} (t : place ≡ Some k) where
            served : (σ : State) → valid σ ≡ true → PartsIn σ ts ds hs cs
                → carried_out σ (link σ s n m session) ≡ record { state = released (linked (pair_of x.session x.elevated x.filtered) (used tcb s σ)); answer = 0 ∷ [] }
            unfolding carried_out
            served σ v p =
                let below = rw t at g.within in
                allowed σ v p ∙ rw (room σ v p ∙ ap (λ (o : Option ℕ). ltb (unwrap_or o pair_slots) pair_slots) t ∙ lt-ltb k pair_slots below)

            pub links : {cs' ts' ds' : List ℕ} → LinkApplied s k x ts ds hs cs ts' ds' cs' → Carried (λ σ. link σ s n m session) ts ds hs cs ts' ds' cs' (Ok (ends answers.Done))
            links w = ends_with answers.Done (λ σ v p. tt)
                (λ σ v p.
                let e = elevated_is σ v p.handles in
                let f = filtered_is σ v p.handles in
                rw (served σ v p) (w.parts σ v p e.was e.number f.was f.number (sym (judged σ v p) ∙ fit) (sym (ap (λ (o : Option ℕ). unwrap_or o pair_slots) t) ∙ place_is σ v p)))
                (λ σ v p. rw (served σ v p))
