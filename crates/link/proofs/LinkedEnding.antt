-- Request 17, part by part and end by end: what the calls gave is what the rules decide. Assumes nothing.
use Prim.Native.Nat.{ℕ, ◌<◌}
use native.Mathlib.Omega.{arith}
use mathlib.Core.Path.{◌≡◌, refl, sym, ap, ap₂, ◌∙◌}
use mathlib.Core.Bool.{Bool, true, false, not}
use mathlib.Core.List.{List, ◌∷◌}
use lib.Dec.{eqb, ltb}
use lib.ListN.{length, get_or, set, length-set, get_or-eq_default}
use borrow.Author.Tests.{eq-eqb, ne_eqb, lt-ltb}
use Rattle.std.specs.Prelude.{Option, None, Some, unwrap_or, Result, Ok, Err, if◌then◌else◌}
use Rattle.rules.specs.Bits.{has}
use Rattle.rules.specs.Number.{encode}
use Rattle.rules.specs.Mask as Mask
use Rattle.rules.specs.Mask.{all_rights}
use Rattle.rules.specs.Refusal.{not_linked, table_full}
use Rattle.rules.specs.Privileges.{tcb}
use Rattle.rules.specs.Token as tokens
use Rattle.rules.specs.Token.{max_dacl, new_token, impersonation, identification, with_elevation}
use Rattle.rules.specs.Table.{Slot, free, is_live, or_else}
use Rattle.rules.specs.Handle as rules
use Rattle.rules.specs.Pair as Pair
use Rattle.rules.specs.Pair.{no_pair, partner}
use Rattle.rules.specs.Index.{found_index}
use Rattle.rules.specs.State as state
use Rattle.rules.specs.State.{State, token_slots, station_count, pair_slots, with_tokens, with_handles, no_token, is_numbered, token_of, put_token, change_token, used, can_add_handle, add_handle}
use Rattle.rules.specs.Valid.{valid}
use Rattle.rules.specs.Head as Head
use Rattle.rules.specs.Memory.{token_words, token_counter, head, token_row, dacl_row}
use Rattle.rules.specs.Duplicate.{retyped, copied}
use Rattle.rules.specs.Link.{partner_of, clone, get_linked}
use Rattle.rules.specs.Decision.{Decision, need◌else◌then◌, success, carried_out, can_issue, issued}
use Rattle.rules.proofs.Tables.{on_if}
use Rattle.rules.proofs.Index.{found_at}
use Rattle.rules.proofs.Facts.{valid_facts, facts_valid}
use Rattle.rules.proofs.Steps.{partner_live}
use Rattle.rules.proofs.Kept.{mark}
use Rattle.handle.specs.Meaning.{handle_of}
use Rattle.handle.specs.declared.Handle.{Handle}
use Rattle.control.specs.Control.{ControlIn}
use Rattle.control.specs.Counters.{NextGiven}
use Rattle.control.specs.Pairs.{pair_of, RowGiven, PairFound}
use Rattle.control.specs.declared.pairs.Pair as Control
use Rattle.control.proofs.PairRows.{row_held}
use Rattle.state.specs.TokenCalls.{FoundAt, Held, Used}
use Rattle.state.specs.HandleFacts.{HandleRoom, HandleAdded}
use Rattle.state.specs.ReleaseFacts.{PartsIn}
use Rattle.state.specs.declared.handles.Change.{Change}
use Rattle.state.proofs.FormedLaws.{valid_formed, pairs_back, tokens_same}
use Rattle.state.proofs.InPlace.{no_token_lem}
use Rattle.state.proofs.Slots.{some_found}
use Rattle.answer.specs.declared.Answer.TheVariants as answers
use Rattle.answer.specs.declared.refusal.Refusal.{Refusal}
use Rattle.answer.specs.declared.refusal.Refusal.TheVariants as refusal
use Rattle.decide.specs.declared.outcome.Outcome.{Outcome}
use Rattle.decide.specs.Carried.{Carried}
use Rattle.decide.specs.Lookup.{LookedUp}
use Rattle.decide.specs.Issue.{IssueRoom, RowIssued}
use Rattle.decide.proofs.Deciding.{fails, holds, refuses, used_parts, carried_as}
use Rattle.decide.proofs.LookupLaws.{looked_up, handle_refuses}
use Rattle.decide.proofs.Issuing.{room_refuses}
use Rattle.copy.specs.Copies.{RowCopied, Remade}
use Rattle.copy.proofs.Copies.{issues_made}
use Rattle.link.specs.Linked.{PartnerGiven, PartnerOpened, CloneIssued}

-- ---- the partner

alone : (token : ℕ) → partner token no_pair ≡ 0
unfolding partner no_pair
alone token = on_if (λ (n : ℕ). n ≡ 0) (eqb 0 token) _ _ (λ e. refl) (λ e. refl)

module _ (token : ℕ) {place : Option ℕ} {cs : List ℕ} (f : PairFound (Pair.has token) cs place) (σ : State) (v : valid σ ≡ true) (i : ControlIn σ cs) where
  place_is : unwrap_or place pair_slots ≡ found_index (Pair.has token) σ.pairs
  place_is = f.index ∙ ap (found_index (Pair.has token)) (pairs_back σ (valid_formed σ v) cs i)

  stands : get_or σ.pairs (unwrap_or place pair_slots) free ≡ state.pair_of σ token
  unfolding state.pair_of
  stands = ap (λ (j : ℕ). get_or σ.pairs j free) place_is ∙ sym (found_at (Pair.has token) σ.pairs)

  live_within : is_live (state.pair_of σ token) ≡ ltb (unwrap_or place pair_slots) pair_slots
  unfolding state.pair_of
  live_within = some_found (Pair.has token) σ.pairs ∙ ap₂ ltb (sym place_is) (valid_facts σ v).loose.pairs_sized

pub no_partner : {token : ℕ} {cs : List ℕ} → PairFound (Pair.has token) cs None → PartnerGiven token cs None
unfolding partner_of or_else
no_partner {token} f = record {
  partner = λ σ v i.
      let long = (valid_facts σ v).loose.pairs_sized in
      sym (ap (λ (p : Slot Pair.Pair). partner token (or_else no_pair p)) (sym (stands token f σ v i) ∙ get_or-eq_default σ.pairs free (omega arith)) ∙ alone token);
  linked = λ σ v i. sym (live_within token f σ v i);
}

module _ {token place : ℕ} {cs : List ℕ} (f : PairFound (Pair.has token) cs (Some place)) {r : Control.Pair} (g : RowGiven place cs r) where
  is_partner : {other : ℕ} → other ≡ partner token (pair_of r.session r.elevated r.filtered) → PartnerGiven token cs (Some other)
  unfolding partner_of
  is_partner e = record {
    partner = λ σ v i. e ∙ ap (partner token) (row_held σ i f.within g ∙ ap (or_else no_pair) (stands token f σ v i));
    linked = λ σ v i. sym (live_within token f σ v i ∙ lt-ltb place pair_slots f.within);
  }

  pub is_elevated : r.elevated ≡ token → PartnerGiven token cs (Some r.filtered)
  unfolding partner
  is_elevated e = is_partner (sym (ap (λ (b : Bool). if b then r.filtered else r.elevated) (eq-eqb r.elevated token e)))

  pub is_filtered : (r.elevated ≡ token → ⊥) → PartnerGiven token cs (Some r.elevated)
  unfolding partner
  is_filtered e = is_partner (sym (ap (λ (b : Bool). if b then r.filtered else r.elevated) (ne_eqb r.elevated token e)))

-- ---- a handle on it

module _ {s other : ℕ} {hs : List Handle} {cs ts ds : List ℕ} {b : Bool} (k : HandleRoom hs cs b) where
  pub no_handle_left : b ≡ false → PartnerOpened s other ts ds hs cs ts ds cs (Err refusal.TableFull)
  no_handle_left t = record { carried = refuses refusal.TableFull (λ σ v p. fails (can_add_handle σ) σ table_full _ (ap not (sym (k.room σ v p.handles p.control) ∙ t))) }

  pub opens : {cs' ts' : List ℕ} → s < station_count → b ≡ true → Used tcb s ts cs ts' → {x : Change} → HandleAdded s other all_rights hs cs cs' x
      → PartnerOpened s other ts ds hs cs ts' ds cs' (Ok (record { answer = answers.Value x.handle.number; change = Some x }))
  unfolding carried_out has add_handle with_handles used change_token put_token with_tokens
  opens in8 t u {x} a =
      let served : (σ : State) → valid σ ≡ true → PartsIn σ ts ds hs cs
      → carried_out σ (need can_add_handle σ else table_full then success (add_handle s other all_rights (used tcb s σ)) (encode σ.handles.next)) ≡ record { state = add_handle s other all_rights (used tcb s σ); answer = 0 ∷ encode σ.handles.next } =
      λ σ v p. rw (sym (k.room σ v p.handles p.control) ∙ t) in
      record {
        carried = record {
          parts = λ σ v p.
              let τ = used tcb s σ in
              let q = used_parts σ v u p in
              rw (served σ v p) (record {
                handles = a.handles τ (valid_formed τ (facts_valid τ (mark σ s tcb (valid_facts σ v) in8 refl).step.facts)) q.handles q.control;
                control = a.control τ q.control;
                tokens = tokens_same refl q.tokens;
              });
          answer = λ σ v p. rw (served σ v p) (ap (λ (n : ℕ). 0 ∷ encode n) (a.number (used tcb s σ) (used_parts σ v u p).control));
          fit = λ σ v p. tt;
        };
      }

-- ---- a clone of it

pub relabelled : (n : ℕ) {ws : List ℕ} → length ws ≡ token_words → Remade (clone n) ws (set (set (set (set ws Head.number n) Head.modified n) Head.type impersonation) Head.level identification)
unfolding clone with_elevation copied retyped token_row head
relabelled n l = record {
  made = record { row = λ t e. ap (λ (l : List ℕ). set (set (set (set l Head.number n) Head.modified n) Head.type impersonation) Head.level identification) e };
  long = simp length-set l;
}

module _ {s slot : ℕ} {hs : List Handle} {cs ts ds : List ℕ} {b : Bool} (i : IssueRoom ts hs cs b) where
  pub no_clone : b ≡ false → CloneIssued s slot ts ds hs cs ts ds cs (Err refusal.TableFull)
  no_clone t = record { carried = λ n at. room_refuses i (λ σ. issued s Mask.query (clone σ.tokens.next (token_of σ n)) σ) (ap not t) }

  pub clones : {n : ℕ} {ws ws' bs cs' ts' ds' : List ℕ} {r : Outcome} → b ≡ true → NextGiven token_counter cs n → RowCopied token_words slot ts ws → Remade (clone n) ws ws'
      → RowCopied max_dacl slot ds bs → RowIssued s Mask.query ws' bs ts ds hs cs ts' ds' cs' r → CloneIssued s slot ts ds hs cs ts' ds' cs' (Ok r)
  unfolding clone with_elevation copied dacl_row
  clones t k w c d e = record {
    carried = λ n at.
        carried_as (λ σ v p. holds (can_issue σ) σ table_full _ (ap not (sym (i.room σ v p) ∙ t)))
        ((issues_made clone w.inside k (λ x v q. c.made.row x (w.row ∙ q)) (λ x q. d.row ∙ q) e).carried n at);
  }

-- ---- the decision

-- the rule, once the handle is found
abbrev go : ℕ → State → rules.Handle → tokens.Token → Decision
go s σ h t =
    need is_live (state.pair_of σ h.token) else not_linked then
    if state.held σ s tcb then
    (need can_add_handle σ else table_full then
    success (add_handle s (partner_of σ h.token) all_rights (used tcb s σ)) (encode σ.handles.next))
    else
    (need can_issue σ else table_full then
    issued s Mask.query (clone σ.tokens.next (token_of σ (partner_of σ h.token))) σ)

module _ {s n : ℕ} {hs : List Handle} {cs ts ds : List ℕ} where
  pub linked_not_found : {e : Refusal} → LookedUp s n Mask.query hs (Err e) → Carried (λ σ. get_linked σ s n) ts ds hs cs ts ds cs (Err e)
  unfolding get_linked
  linked_not_found l = handle_refuses l (go s)

  module _ {h : Handle} (l : LookedUp s n Mask.query hs (Ok h)) where
    decided : (σ : State) → valid σ ≡ true → PartsIn σ ts ds hs cs → carried_out σ (get_linked σ s n) ≡ carried_out σ (go s σ (handle_of h) (token_of σ h.token))
    unfolding get_linked
    decided σ v p = looked_up l σ v p.handles (go s σ)

    pub in_no_pair : PartnerGiven h.token cs None → Carried (λ σ. get_linked σ s n) ts ds hs cs ts ds cs (Err refusal.NotLinked)
    in_no_pair g = refuses refusal.NotLinked (λ σ v p. decided σ v p ∙ fails (is_live (state.pair_of σ h.token)) σ not_linked _ (ap not (sym (g.linked σ v p.control))))

    module _ {other : ℕ} (g : PartnerGiven h.token cs (Some other)) where
      -- a live pair's token is in a slot, and no token has number 0
      lost : FoundAt other ts token_slots → (σ : State) → valid σ ≡ true → PartsIn σ ts ds hs cs → ⊥
      unfolding no_token new_token
      lost at σ v p =
          let is = partner_live σ h.token (valid_facts σ v) (sym (g.linked σ v p.control)) in
          let given = ((valid_formed σ v).tokens _ is.was).1 in
          let same = g.partner σ v p.control in
          let none = ap (λ (x : tokens.Token). x.number) (ap (token_of σ) (sym same) ∙ no_token_lem other at v p.tokens (omega arith)) in
          absurd (omega arith)

      pub partner_lost : FoundAt other ts token_slots → Carried (λ σ. get_linked σ s n) ts ds hs cs ts ds cs (Err refusal.NotLinked)
      partner_lost at = refuses refusal.NotLinked (λ σ v p. absurd (lost at σ v p))

      module _ {may : Bool} (is : Held tcb s ts cs may) where
        goes_on : (σ : State) → valid σ ≡ true → PartsIn σ ts ds hs cs → carried_out σ (get_linked σ s n)
            ≡ carried_out σ (if may then
            (need can_add_handle σ else table_full then
            success (add_handle s other all_rights (used tcb s σ)) (encode σ.handles.next))
            else
            (need can_issue σ else table_full then
            issued s Mask.query (clone σ.tokens.next (token_of σ other)) σ))
        goes_on σ v p =
            decided σ v p ∙ holds (is_live (state.pair_of σ h.token)) σ not_linked _ (ap not (sym (g.linked σ v p.control)))
            ∙ rw (is.held σ v p.tokens p.control, g.partner σ v p.control)

        pub gives_partner : {cs' ts' ds' : List ℕ} {r : Result Outcome Refusal} → may ≡ true → PartnerOpened s other ts ds hs cs ts' ds' cs' r → Carried (λ σ. get_linked σ s n) ts ds hs cs ts' ds' cs' r
        gives_partner t o = carried_as (λ σ v p. goes_on σ v p ∙ rw t) o.carried

        pub gives_clone : {slot : ℕ} {cs' ts' ds' : List ℕ} {r : Result Outcome Refusal} → FoundAt other ts slot → may ≡ false → CloneIssued s slot ts ds hs cs ts' ds' cs' r
            → Carried (λ σ. get_linked σ s n) ts ds hs cs ts' ds' cs' r
        gives_clone at t o = carried_as (λ σ v p. goes_on σ v p ∙ rw t) (o.carried other at)
