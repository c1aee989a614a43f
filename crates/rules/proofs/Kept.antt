-- Every rule keeps a state valid, and what lasts of its tokens. Assumes nothing.
use Prim.Native.Nat.{ℕ, ◌^◌, ◌<◌, ◌≤◌}
use native.Mathlib.Omega.{arith}
use mathlib.Core.Path.{◌≡◌, refl, sym, ap, ◌∙◌, subst}
use mathlib.Core.Bool.{true, not, ◌&&◌}
use mathlib.Core.List.{List, map, [], ◌∷◌}
use lib.Dec.{eqb, leb, ltb}
use lib.ListN.{length, length-map}
use borrow.Author.Tests.{eqb-true, eq-eqb, lt-ltb, ltb-true, le-leb}
use Rattle.rules.specs.SidTable.{is_number, fits_table}
use Rattle.rules.specs.Sid.{Sid}
use Rattle.rules.specs.Given.{Given, GivenGroup, number_in, group_sid, group_in}
use Rattle.rules.specs.AdjustDefaults as AdjustDefaults
use Rattle.rules.specs.AdjustGroups as AdjustGroups
use Rattle.rules.specs.AdjustPrivileges as AdjustPrivileges
use Rattle.rules.specs.AdjustScope as AdjustScope
use Rattle.rules.specs.Basic.{implies, all}
use Rattle.rules.specs.Bits.{has, within}
use Rattle.rules.specs.Condition.{Condition}
use Rattle.rules.specs.Create as Create
use Rattle.rules.specs.Decision.{can_issue, issued, with_handle}
use Rattle.rules.specs.Duplicate as Duplicate
use Rattle.rules.specs.Entry.{Entry}
use Rattle.rules.specs.Evaluate as Evaluate
use Rattle.rules.specs.Group.{Group, sid_of}
use Rattle.rules.specs.Growth.{Mem, Live, Follows}
use Rattle.rules.specs.Handle.{Handle}
use Rattle.rules.specs.Impersonate as Impersonate
use Rattle.rules.specs.Install as Install
use Rattle.rules.specs.Link as Link
use Rattle.rules.specs.Linking.{InPair, Linked}
use Rattle.rules.specs.Mask as Mask
use Rattle.rules.specs.Mask.{all_rights, valid_mask}
use Rattle.rules.specs.Number.{max64, Read, got, bad}
use Rattle.rules.specs.OpenClose as OpenClose
use Rattle.rules.specs.Pair.{Pair}
use Rattle.rules.specs.Privileges.{create_token, assign_primary_token, tcb, impersonate, existing, granted}
use Rattle.rules.specs.Query as Query
use Rattle.rules.specs.Request.{parse, Request}
use Rattle.rules.specs.Restrict as Restrict
use Rattle.rules.specs.Serve.{rule, decided, decision, serve}
use Rattle.rules.specs.State.{station_count, with_tokens, set_token, set_client, number_of, token_of, caller_number, caller, held, put_token, change_token, used_on, used, can_add_token, handle_of, can_add_handle, released, entering, State}
use Rattle.rules.specs.Station.{no_client}
use Rattle.rules.specs.Table.{some_free, with_slots, can_add}
use Rattle.rules.specs.Token.{max_groups, max_restricting, primary, impersonation, full, limited, primary_of, new_token, with_privileges, with_elevation, Token, Identity}
use Rattle.rules.specs.Valid.{is_byte, is32, is64, between, identity_valid, privileges_valid, groups_valid, handle_valid, is_listed}
use Rattle.rules.proofs.Logic.{and_l, and_r, and_i, not_both, not_e, mem_by, all_mem, mem_all}
use Rattle.rules.proofs.Bits.{none_within}
use Rattle.rules.proofs.Tables.{on_if}
use Rattle.rules.proofs.Facts.{TokenFacts, token_at_lem, StateFacts}
use Rattle.rules.proofs.Changes.{Carries, carried, put_carries, of_later, numbers_of, put_numbers, put_there, put_room, none_may, token_may}
use Rattle.rules.proofs.Widths.{Got, Fits, parsed}
use Rattle.rules.proofs.GroupsKept.{sid32, all_entered}
use Rattle.rules.proofs.TokensKept.{After, used_after, privileges_after, groups_after, scope_after, defaults_after, full_after, limited_after, new_facts, clone_made, duplicated_made, restricted_made, duplicated_listed, clone_listed, restricted_listed, created_listed}
use Rattle.rules.proofs.Steps.{Advance, stays, ◌then◌, Is, token_ok, is_live_lem, is_caller, partner_live, change, open_step, issue_step, close_step, token_step, client_step, pair_step, Ends, Keeps, ended, Found, after_both, on_handle, install_marked, client_marked, enter_step}
use Rattle.rules.proofs.SidNumbers.{given_valid, number_32}

-- ---- the token of a number, over a step

is_number_lem : (d : State) (n : ℕ) → Is d n → Mem n (numbers_of d)
unfolding number_of
is_number_lem d n i = mem_by number_of (sym i.number) i.was

pub changed_is : (d : State) (m n : ℕ) (g : Token → Token) → Is d n → Is (change_token m g d) n
unfolding change_token
changed_is d m n g i = is_live_lem (change_token m g d) n (rw (put_numbers d (g (token_of d m))) (is_number_lem d n i))

-- what a step carries over, of the token of a number
pub carried_token : (R : Token → Token → Type 0) (d e : State) (n : ℕ) → StateFacts d → Carries R d.tokens e.tokens → Is d n → Is e n → R (token_of d n) (token_of e n)
carried_token R d e n f c i j = carried R d e f.loose c (token_of d n) (token_of e n) i.was j.was (j.number ∙ sym i.number)

pub same_identity : (d e : State) (n : ℕ) → StateFacts d → Advance d e → Is d n → Is e n → (token_of e n).identity ≡ (token_of d n).identity
same_identity d e n f st i j = (carried_token Follows d e n f (of_later st.later) i j).identity

-- a token that is changed, and the others
pub changed_token : (d : State) (n : ℕ) (g : Token → Token) → Is d n → (g (token_of d n)).number ≡ (token_of d n).number → StateFacts (change_token n g d) → token_of (change_token n g d) n ≡ g (token_of d n)
unfolding change_token
changed_token d n g i same f =
    let e = same ∙ i.number in
    token_at_lem (change_token n g d) f.loose.tokens.apart (put_there d (g (token_of d n)) (subst (λ (k : ℕ). Mem k (numbers_of d)) (sym e) (is_number_lem d n i))) e

unfoldable Else : ℕ → Token → Token → Type 0
Else n t u = (t.number ≡ n → ⊥) → u ≡ t

others : (d : State) (n k : ℕ) (g : Token → Token) → StateFacts d → Is d n → (g (token_of d n)).number ≡ (token_of d n).number → (k ≡ n → ⊥) → Is d k → token_of (change_token n g d) k ≡ token_of d k
unfolding change_token Else
others d n k g f i same ne j =
    carried_token (Else n) d (change_token n g d) k f (put_carries (Else n) (λ t h. refl) d (token_of d n) (g (token_of d n)) i.was same (λ h. absurd (h i.number))) j (changed_is d n k g j)
    (λ q. ne (sym j.number ∙ q))

-- a live token's number is below the next one
older : (d : State) (n : ℕ) → StateFacts d → Is d n → (token_of d n).number ≤ d.tokens.next
older d n f i = let below = (f.loose.tokens.given n (is_number_lem d n i)).1 in let q = i.number in omega arith

next_64 : (d : State) → can_issue d ≡ true → is64 d.tokens.next ≡ true
unfolding can_issue can_add_token can_add is64
next_64 d h = let k = ltb-true d.tokens.next max64 (and_r (some_free d.tokens.slots) _ (and_r (can_add_handle d) _ h)) in lt-ltb d.tokens.next (2 ^ 64) (omega arith)

-- ---- used marks

pub record Marked (d e : State) : Type 0 where
  pub step : Advance d e
  pub is : (n : ℕ) → Is d n → Is e n

pub mark : (d : State) (s n : ℕ) → StateFacts d → s < station_count → has n existing ≡ true → Marked d (used n s d)
unfolding used
mark d s n f in8 h =
    let r = caller_number d s in
    let i = is_live_lem d r (is_caller d s f in8) in
    let a = used_after (token_of d r) n h (token_ok d r f i) in
    record { step = change d r (used_on n) f i a.facts a.follows; is = λ m j. changed_is d r m (used_on n) j }

-- what they leave alone of a token they carry over
pub marks_carry : (R : Token → Token → Type 0) → ((t : Token) → R t t) → (d : State) (s n : ℕ) → StateFacts d → s < station_count → ((t : Token) → R t (used_on n t))
    → Carries R d.tokens (used n s d).tokens
unfolding used change_token used_on with_privileges
marks_carry R alike d s n f in8 h =
    let r = caller_number d s in put_carries R alike d (token_of d r) (used_on n (token_of d r)) (is_live_lem d r (is_caller d s f in8)).was refl (h (token_of d r))

mark_again : (d e g : State) → Marked d e → Marked e g → Marked d g
mark_again d e g a b = record { step = a.step then b.step; is = λ n i. b.is n (a.is n i) }

marked_room : (d : State) (s n : ℕ) → can_issue d ≡ true → can_issue (used n s d) ≡ true
unfolding used change_token
marked_room d s n h = put_room d (used_on n (token_of d (caller_number d s))) h

marked_handles : (d : State) (s n : ℕ) → can_add_handle d ≡ true → can_add_handle (used n s d) ≡ true
unfolding used change_token put_token with_tokens can_add_handle
marked_handles d s n h = h

pub marked_next : (d : State) (s n : ℕ) → (used n s d).tokens.next ≡ d.tokens.next
unfolding used change_token put_token with_tokens with_slots
marked_next d s n = refl

pub marks : (d : State) (s : ℕ) (t : Token) → StateFacts d → s < station_count → Marked d (Install.marked s t d)
unfolding has
marks d s t f in8 =
    let once = used assign_primary_token s d in
    let m : Marked d once = mark d s assign_primary_token f in8 refl in
    install_marked (Marked d) d s t m (mark_again d once (used tcb s once) m (mark once s tcb m.step.facts in8 refl))

pub client_marks : (d : State) (s : ℕ) (t : Token) → StateFacts d → s < station_count → Marked d (Impersonate.marked s t d)
unfolding has
client_marks d s t f in8 = client_marked (Marked d) d s t (mark d s impersonate f in8 refl) (record { step = stays f; is = λ n i. i })

-- ---- the level in force

pub in_force_lem : (d : State) (s : ℕ) (t : Token) → Impersonate.in_force d s t ≤ t.identity.level
unfolding Impersonate.in_force
in_force_lem d s t =
    on_if (λ n. n ≤ t.identity.level) (Impersonate.passes d s t && leb t.identity.integrity (caller d s).identity.integrity) _ _
    (λ e. omega arith) (λ e. omega arith)

-- ---- what request 3 makes

-- a SID's number is within its field's width
numbers_32 : (sids : List Sid) (ns : List ℕ) → fits_table sids ≡ true → all (is_number sids) ns ≡ true → all is32 ns ≡ true
unfolding is32
numbers_32 sids ns fits h = mem_all is32 ns (λ n m. number_32 sids n fits (all_mem (is_number sids) ns h m))

all_sids : (gs : List Group) → all is32 (map sid_of gs) ≡ true → all sid32 gs ≡ true
unfolding all sid_of sid32
all_sids [] h = refl
all_sids (g ∷ gs) h = and_i (and_l (is32 g.sid) _ h) (all_sids gs (and_r (is32 g.sid) _ h))

created : (sids : List Sid) (n user session integrity present by_default : ℕ) (gs : List Group) → fits_table sids ≡ true → is64 n ≡ true → is64 session ≡ true → Create.valid_create sids user integrity present by_default gs ≡ true
    → TokenFacts (new_token n (primary_of n user session integrity) (granted present by_default) (map Create.entered gs))
unfolding Create.valid_create primary_of granted identity_valid privileges_valid groups_valid between implies all
created sids n user session integrity present by_default gs fits w ws ok =
    let known : all (is_number sids) (user ∷ map sid_of gs) ≡ true = search (and_l, and_r) in
    let narrow = numbers_32 sids (user ∷ map sid_of gs) fits known in
    let wu = and_l (is32 user) (all is32 (map sid_of gs)) narrow in
    let wg = all_sids gs (and_r (is32 user) _ narrow) in
    let level : Create.valid_integrity integrity ≡ true = search (and_l, and_r) in
    let inside : within by_default present ≡ true = search (and_l, and_r) in
    let known : within present existing ≡ true = search (and_l, and_r) in
    let few : leb (length gs) max_groups ≡ true = search (and_l, and_r) in
    let each : all (Create.valid_pair user) gs ≡ true = search (and_l, and_r) in
    new_facts n (primary_of n user session integrity) (granted present by_default) (map Create.entered gs) (le-leb n n (omega arith)) w
    (and_i (and_i (and_i (and_i (and_i wu ws) level) refl) refl) refl)
    (and_i (and_i (and_i inside inside) known) (none_within existing))
    (and_i (ap (λ (k : ℕ). leb k max_groups) (length-map gs Create.entered) ∙ few) (all_entered user gs each wg))

-- ---- the states that request 16 goes through are valid, and the last one's tokens are such that they make the pair

pub record LinkStages (d : State) (s session x y : ℕ) : Type 0 where
  pub marked : StateFacts (used tcb s d)
  pub raised : StateFacts (change_token x (with_elevation full) (used tcb s d))
  pub lowered : StateFacts (change_token y (with_elevation limited) (change_token x (with_elevation full) (used tcb s d)))
  pub linked : Linked (change_token y (with_elevation limited) (change_token x (with_elevation full) (used tcb s d))) (record { session = session; elevated = x; filtered = y })

-- ---- the rules, one by one

module _ (d : State) (f : StateFacts d) (s : ℕ) (in8 : s < station_count) where
  adjust : (h : Handle) (g : Token → Token) → Found d h → After (token_of d h.token) (g (token_of d h.token)) → Advance d (change_token h.token g d)
  adjust h g k a = change d h.token g f k.token a.facts a.follows

  opens : (mask : ℕ) → Keeps d (OpenClose.open_own d s mask)
  unfolding OpenClose.open_own Ends
  opens mask m room = open_step d s (caller_number d s) mask f in8 m room (is_caller d s f in8)

  closes : (n : ℕ) → Keeps d (OpenClose.close d s n)
  unfolding OpenClose.close Ends
  closes n known = close_step d s n f

  queries : (n class capacity : ℕ) → Keeps d (Query.query d s n class capacity)
  unfolding Query.query Ends
  queries n class capacity = on_handle d s n _ _ f λ k ok fits. stays f

  evaluates : (n : ℕ) (c : Condition) → Keeps d (Evaluate.evaluate d s n c)
  unfolding Evaluate.evaluate Ends
  evaluates n c = on_handle d s n _ _ f λ k ok. stays f

  adjusts_privileges : (n : ℕ) (es : List Entry) → Keeps d (AdjustPrivileges.adjust d s n es)
  unfolding AdjustPrivileges.adjust Ends
  adjusts_privileges n es =
      on_handle d s n _ _ f λ k ok.
      let h = handle_of d s n in
      adjust h (AdjustPrivileges.adjusted_token es) k (privileges_after (token_of d h.token) es ok (token_ok d h.token f k.token))

  adjusts_groups : (n : ℕ) (es : List Entry) → Keeps d (AdjustGroups.adjust d s n es)
  unfolding AdjustGroups.adjust Ends
  adjusts_groups n es =
      on_handle d s n _ _ f λ k ok may.
      let h = handle_of d s n in
      adjust h (AdjustGroups.adjusted_token es) k (groups_after (token_of d h.token) es may (token_ok d h.token f k.token))

  defaults : (n owner group flag : ℕ) (bytes : List ℕ) → all is_byte bytes ≡ true → Keeps d (AdjustDefaults.adjust d s n owner group flag bytes)
  unfolding AdjustDefaults.adjust Ends
  defaults n owner group flag bytes b =
      on_handle d s n _ _ f λ k ok.
      let h = handle_of d s n in
      adjust h (AdjustDefaults.adjusted_token owner group flag bytes) k (defaults_after (token_of d h.token) owner group flag bytes ok b (token_ok d h.token f k.token))

  scopes : (n v : ℕ) → is32 v ≡ true → Keeps d (AdjustScope.scope d s n v)
  unfolding AdjustScope.scope Ends has
  scopes n v w =
      on_handle d s n _ _ f λ k ok.
      let h = handle_of d s n in
      let e = used tcb s d in
      let m : Marked d e = mark d s tcb f in8 refl in
      let i = m.is h.token k.token in
      let a = scope_after (token_of e h.token) v w (token_ok e h.token m.step.facts i) in
      m.step then change e h.token (AdjustScope.scoped_token v) m.step.facts i a.facts a.follows

  listed_at : (n : ℕ) → Is d n → is_listed d.sids (token_of d n) ≡ true
  listed_at n i = f.loose.listed (token_of d n) i.was

  duplicate_ok : (h : Handle) (t : Token) (type level mask : ℕ) → Duplicate.valid_duplicate h t type level mask ≡ true → (leb level 3 ≡ true) × (valid_mask mask ≡ true)
  unfolding Duplicate.valid_duplicate
  duplicate_ok h t type level mask ok = search (and_l, and_r)

  duplicates : (n type level mask : ℕ) → Keeps d (Duplicate.duplicate d s n type level mask)
  unfolding Duplicate.duplicate issued Ends
  duplicates n type level mask =
      on_handle d s n _ _ f λ k ok room.
      let h = handle_of d s n in
      let t = token_of d h.token in
      let r = duplicate_ok h t type level mask ok in
      let u = duplicated_made t d.tokens.next type level (older d h.token f k.token) (next_64 d room) r.0 (token_ok d h.token f k.token) in
      issue_step d s mask (Duplicate.duplicated d.tokens.next type level t) f in8 r.1 room u.number u.facts
      (duplicated_listed d.sids t d.tokens.next type level (listed_at h.token k.token))

  mask_ok : (h : Handle) → Found d h → valid_mask h.mask ≡ true
  unfolding handle_valid
  mask_ok h k = and_r (ltb h.station station_count) _ (f.loose.each_handle h k.was)

  -- over numbers, where the table has room
  restricts_numbered : (n mark removed : ℕ) (deny given : List ℕ) → Keeps d (Restrict.restrict_numbered d s n mark removed deny given)
  unfolding Restrict.restrict_numbered Restrict.valid_restrict issued Ends
  restricts_numbered n mark removed deny given =
      on_handle d s n _ _ f λ k ok fits.
      let h = handle_of d s n in
      let t = token_of d h.token in
      let few : leb (length (Restrict.restricting_to given t.limits.restricting)) max_restricting ≡ true = search (and_l, and_r) in
      let room : can_issue d ≡ true = search (and_l, and_r) in
      let table : fits_table d.sids ≡ true = search (and_l, and_r) in
      let known : all (is_number d.sids) given ≡ true = search (and_l, and_r) in
      let u = restricted_made t d.tokens.next mark removed deny given (older d h.token f k.token) (next_64 d room) few (numbers_32 d.sids given table known) (token_ok d h.token f k.token) in
      issue_step d s h.mask (Restrict.restricted d.tokens.next mark removed deny given t) f in8 (mask_ok h k) room u.number u.facts
      (restricted_listed d.sids t d.tokens.next mark removed deny given (token_ok d h.token f k.token) known (listed_at h.token k.token))

  creates_numbered : (user session integrity present by_default : ℕ) (gs : List Group) → is64 session ≡ true → Keeps d (Create.create_numbered d s user session integrity present by_default gs)
  unfolding Create.create_numbered Create.valid_create issued Ends has valid_mask within new_token primary_of used change_token put_token with_tokens
  creates_numbered user session integrity present by_default gs ws =
      λ may ok fits.
      let room = and_l (can_issue d) (fits_table d.sids) fits in
      let table = and_r (can_issue d) (fits_table d.sids) fits in
      let known : all (is_number d.sids) (user ∷ map sid_of gs) ≡ true = search (and_l, and_r) in
      let e = used create_token s d in
      let m : Marked d e = mark d s create_token f in8 refl in
      let n = d.tokens.next in
      m.step then issue_step e s all_rights (new_token n (primary_of n user session integrity) (granted present by_default) (map Create.entered gs)) m.step.facts in8 refl (marked_room d s create_token room) (sym (marked_next d s create_token))
      (created d.sids n user session integrity present by_default gs table (next_64 d room) ws ok)
      (created_listed d.sids n (primary_of n user session integrity) (granted present by_default) gs known)

  installs : (n : ℕ) → Keeps d (Install.install d s n)
  unfolding Install.install Ends
  installs n =
      on_handle d s n _ _ f λ k may ok match.
      let h = handle_of d s n in
      let t = token_of d h.token in
      let e = Install.marked s t d in
      let m = marks d s t f in8 in
      let i = m.is h.token k.token in
      let p : (token_of e h.token).identity.type ≡ primary = ap (λ x. x.type) (same_identity d e h.token f m.step k.token i) ∙ eqb-true t.identity.type primary ok in
      m.step then subst (λ (j : ℕ). Advance e (released (set_token s j e))) i.number (token_step e s (token_of e h.token) m.step.facts i.was p)

  impersonates : (n : ℕ) → Keeps d (Impersonate.impersonate d s n)
  unfolding Impersonate.impersonate Ends
  impersonates n =
      on_handle d s n _ _ f λ k ok passed.
      let h = handle_of d s n in
      let t = token_of d h.token in
      let e = Impersonate.marked s t d in
      let m = client_marks d s t f in8 in
      let g = m.step.facts in
      let i = m.is h.token k.token in
      let same = same_identity d e h.token f m.step k.token i in
      let level = Impersonate.in_force d s t in
      let may =
      token_may e (token_of e h.token) level i.was (ap (λ x. x.type) same ∙ eqb-true t.identity.type impersonation ok)
      (rw same (in_force_lem d s t)) g.loose in
      m.step then subst (λ (j : ℕ). Advance e (released (set_client s (record { token = j; level = level }) e))) i.number (client_step e s _ g may)

  reverts : Keeps d (Impersonate.revert d s)
  unfolding Impersonate.revert Ends
  reverts = client_step d s no_client f (none_may d f.loose)

  -- token x becomes Full, token y Limited, and they the session's pair
  module _ (session x y : ℕ) (i : Is d x) (j : Is d y) (ok : Link.linkable session (token_of d x) (token_of d y) ≡ true) where
    pair : Pair
    pair = record { session = session; elevated = x; filtered = y }

    d1 : State
    d1 = used tcb s d

    d2 : State
    d2 = change_token x (with_elevation full) d1

    d3 : State
    d3 = change_token y (with_elevation limited) d2

    apart : x ≡ y → ⊥
    unfolding Link.linkable
    apart e =
        let t = token_of d x in
        let u = token_of d y in
        let h : not (eqb t.number u.number) ≡ true = search (and_l, and_r) in
        not_e (eqb t.number u.number) h (eq-eqb t.number u.number (i.number ∙ e ∙ sym j.number))

    marked : Marked d d1
    unfolding has d1
    marked = mark d s tcb f in8 refl

    same_elevation : (n : ℕ) → Is d n → (token_of d1 n).elevation ≡ (token_of d n).elevation
    unfolding d1 used_on with_privileges
    same_elevation n k =
        carried_token (λ t u. u.elevation ≡ t.elevation) d d1 n f (marks_carry (λ t u. u.elevation ≡ t.elevation) (λ t. refl) d s tcb f in8 (λ t. refl)) k (marked.is n k)

    is2 : (n : ℕ) → Is d n → Is d2 n
    unfolding d2
    is2 n k = changed_is d1 x n (with_elevation full) (marked.is n k)

    is3 : (n : ℕ) → Is d n → Is d3 n
    unfolding d3
    is3 n k = changed_is d2 y n (with_elevation limited) (is2 n k)

    raised : Advance d1 d2
    unfolding d2 Link.linkable
    raised =
        let k = marked.is x i in
        let t = token_of d x in
        let h : not (eqb t.elevation limited) ≡ true = search (and_l, and_r) in
        let a =
        full_after (token_of d1 x) (λ q. not_e (eqb t.elevation limited) h (eq-eqb t.elevation limited (sym (same_elevation x i) ∙ q)))
        (token_ok d1 x marked.step.facts k) in
        change d1 x (with_elevation full) marked.step.facts k a.facts a.follows

    -- token y is as it was marked
    untouched : token_of d2 y ≡ token_of d1 y
    unfolding d2 with_elevation
    untouched = others d1 x y (with_elevation full) marked.step.facts (marked.is x i) refl (λ q. apart (sym q)) (marked.is y j)

    lowered : Advance d2 d3
    unfolding d3 Link.linkable
    lowered =
        let k = is2 y j in
        let u = token_of d y in
        let h : not (eqb u.elevation full) ≡ true = search (and_l, and_r) in
        let was = ap (λ (t : Token). t.elevation) untouched ∙ same_elevation y j in
        let a = limited_after (token_of d2 y) (λ q. not_e (eqb u.elevation full) h (eq-eqb u.elevation full (sym was ∙ q))) (token_ok d2 y raised.facts k) in
        change d2 y (with_elevation limited) raised.facts k a.facts a.follows

    -- one of the pair, after both changes
    in_pair : (n e : ℕ) (k : Is d n) → (token_of d3 n).elevation ≡ e → Link.is_of_session session (token_of d n) ≡ true → (z : InPair d3 n e session) × (z.token.identity ≡ (token_of d n).identity)
    unfolding Link.is_of_session Live
    in_pair n e k q h =
        let t = token_of d n in
        let at = is3 n k in
        let same = same_identity d d3 n f (marked.step then raised then lowered) k at in (
          record {
            token = token_of d3 n;
            live = at.was;
            number = at.number;
            elevation = q;
            type = ap (λ (z : Identity). z.type) same ∙ eqb-true t.identity.type primary (and_l _ (eqb t.identity.session session) h);
            session = ap (λ (z : Identity). z.session) same ∙ eqb-true t.identity.session session (and_r (eqb t.identity.type primary) _ h);
          },
          same,
        )

    linked : Linked d3 pair
    unfolding pair d2 d3 Link.linkable with_elevation
    linked =
        let t = token_of d x in
        let u = token_of d y in
        let up = others d2 y x (with_elevation limited) raised.facts (is2 y j) refl apart (is2 x i) ∙ changed_token d1 x (with_elevation full) (marked.is x i) refl raised.facts in
        let down = changed_token d2 y (with_elevation limited) (is2 y j) refl lowered.facts in
        let a = in_pair x full i (ap (λ (z : Token). z.elevation) up) (search (and_l, and_r)) in
        let b = in_pair y limited j (ap (λ (z : Token). z.elevation) down) (search (and_l, and_r)) in
        let user : eqb t.identity.user u.identity.user ≡ true = search (and_l, and_r) in
        record {
          elevated = a.0;
          filtered = b.0;
          user = ap (λ (z : Identity). z.user) a.1 ∙ eqb-true t.identity.user u.identity.user user ∙ sym (ap (λ (z : Identity). z.user) b.1);
        }

    link_step : Advance d (released (Link.linked pair d1))
    unfolding pair d2 d3 Link.linked
    link_step = marked.step then raised then lowered then pair_step d3 pair lowered.facts linked

    pub link_stages : LinkStages d s session x y
    unfolding pair d1 d2 d3
    link_stages = record { marked = marked.step.facts; raised = raised.facts; lowered = lowered.facts; linked = linked }

  links : (n m session : ℕ) → Keeps d (Link.link d s n m session)
  unfolding Link.link Ends pair d1
  links n m session = after_both (Advance d) d s n m _ _ f λ a b may ok room. link_step session _ _ a.token b.token ok

  gets_linked : (n : ℕ) → Keeps d (Link.get_linked d s n)
  unfolding Link.get_linked issued Ends has valid_mask within
  gets_linked n =
      on_handle d s n _ _ f λ k paired.
      let h = handle_of d s n in
      let r = Link.partner_of d h.token in
      let i = partner_live d h.token f paired in
      let m : Marked d (used tcb s d) = mark d s tcb f in8 refl in
      on_if (Keeps d) (held d s tcb) _ _
      (λ t room. m.step then open_step (used tcb s d) s r all_rights m.step.facts in8 refl (marked_handles d s tcb room) (is_number_lem (used tcb s d) r (m.is r i)))
      (λ t room.
      let u = clone_made (token_of d r) d.tokens.next (older d r f i) (next_64 d room) (token_ok d r f i) in
      issue_step d s Mask.query (Link.clone d.tokens.next (token_of d r)) f in8 refl room u.number u.facts
      (clone_listed d.sids (token_of d r) d.tokens.next (listed_at r i)))

-- ---- SIDs as they are given: they enter, and then the rule is one over numbers

module _ (d : State) (f : StateFacts d) (s : ℕ) (in8 : s < station_count) where
  creates : (user : Given) (session integrity present by_default : ℕ) (gs : List GivenGroup) → is64 session ≡ true → all given_valid (user ∷ map group_sid gs) ≡ true
      → Keeps d (Create.create d s user session integrity present by_default gs)
  unfolding Create.create Create.create_numbered issued Ends
  creates user session integrity present by_default gs ws w =
      λ may ok fits.
      let xs = user ∷ map group_sid gs in
      let τ = entering xs d in
      let g = enter_step d xs f w (and_r (can_issue τ) (fits_table τ.sids) fits) in
      g then creates_numbered τ g.facts s in8 (number_in τ.sids user) session integrity present by_default (map (group_in τ.sids) gs) ws may ok fits

  restricts : (n mark removed : ℕ) (deny : List ℕ) (given : List Given) → all given_valid given ≡ true → Keeps d (Restrict.restrict d s n mark removed deny given)
  unfolding Restrict.restrict Restrict.restrict_numbered with_handle issued Ends
  restricts n mark removed deny given w =
      λ known permitted ok fits.
      let τ = entering given d in
      let g = enter_step d given f w (search (and_l, and_r)) in
      g then restricts_numbered τ g.facts s in8 n mark removed deny (map (number_in τ.sids) given) known permitted ok fits

module _ (d : State) (f : StateFacts d) (s : ℕ) (in8 : s < station_count) where
  by_rule : (r : Request) → Fits r → Keeps d (rule d s r)
  unfolding rule Fits
  by_rule (Request.open_own mask) w = opens d f s in8 mask
  by_rule (Request.close n) w = closes d f s in8 n
  by_rule (Request.create u e i p b gs) w = creates d f s in8 u e i p b gs w.0 w.1
  by_rule (Request.query n class capacity) w = queries d f s in8 n class capacity
  by_rule (Request.privileges n es) w = adjusts_privileges d f s in8 n es
  by_rule (Request.groups n es) w = adjusts_groups d f s in8 n es
  by_rule (Request.scope n v) w = scopes d f s in8 n v w
  by_rule (Request.defaults n o g x bytes) w = defaults d f s in8 n o g x bytes w
  by_rule (Request.duplicate n t l m) w = duplicates d f s in8 n t l m
  by_rule (Request.restrict n m r ds ss) w = restricts d f s in8 n m r ds ss w
  by_rule (Request.install n) w = installs d f s in8 n
  by_rule (Request.impersonate n) w = impersonates d f s in8 n
  by_rule Request.revert w = reverts d f s in8
  by_rule (Request.link n m session) w = links d f s in8 n m session
  by_rule (Request.linked n) w = gets_linked d f s in8 n
  by_rule (Request.evaluate n c) w = evaluates d f s in8 n c

  by_read : (r : Read Request) → Got Fits r → Keeps d (decided d s r)
  unfolding decided Ends Got
  by_read bad w = λ h. absurd (not_both h refl)
  by_read (got r rest) w = by_rule r w.0

  pub serve_step : (body : List ℕ) → all is_byte body ≡ true → Advance d (serve d s body).state
  unfolding serve decision
  serve_step body b = ended (Advance d) d (decision d s body) (stays f) (by_read (parse body) (parsed body b))
