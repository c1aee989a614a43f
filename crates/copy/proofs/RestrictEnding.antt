-- Requests 10 and 15, end by end. Assumes nothing.
use Prim.Native.Nat.{ℕ, ◌+◌, ◌^◌, ◌≤◌, ◌<◌, min}
use native.Mathlib.Omega.{arith}
use mathlib.Core.Path.{◌≡◌, refl, sym, ap, ap₂, ◌∙◌, subst}
use mathlib.Core.Bool.{Bool, true, false, not, ◌&&◌, ◌||◌, and_assoc}
use mathlib.Core.List.{List, map}
use lib.Dec.{eqb, leb}
use lib.ListN.{length, take, drop, get_or}
use borrow.Author.Tests.{not-true, not-false, leb-true, ltb-true}
use Rattle.table.specs.Lists.{take_pad}
use Rattle.table.specs.Table.{nth_record}
use Rattle.std.specs.Prelude.{Option, None, Some, Result, Ok, Err, unwrap_or, if◌then◌else◌}
use Rattle.rules.specs.Basic.{implies, all, distinct, is_below}
use Rattle.rules.specs.Bits.{within}
use Rattle.rules.specs.Mask as Mask
use Rattle.rules.specs.Number.{got}
use Rattle.rules.specs.Refusal.{bad_field, table_full}
use Rattle.rules.specs.Privileges.{existing}
use Rattle.rules.specs.Handle as rules-handle
use Rattle.rules.specs.Token.{Token, max_groups, max_restricting, max_dacl, with_groups, is_restricted}
use Rattle.rules.specs.State as state
use Rattle.rules.specs.Sid.{Sid}
use Rattle.rules.specs.SidTable.{is_number, fits_table}
use Rattle.rules.specs.Given.{Given, by_number, entered_all, number_in}
use Rattle.rules.specs.State.{State, token_slots, with_tokens, with_handles, with_sids, entering, find_handle, token_of, can_add_handle, can_add_token, add_handle, add_token}
use Rattle.rules.specs.Valid.{is32, group_valid, groups_valid, limits_valid, valid, token_valid}
use Rattle.rules.specs.Head as Head
use Rattle.rules.specs.Memory.{head_words, token_words, token_counter, mark, head, token_row, dacl_row}
use Rattle.rules.specs.Request.{Reader, times, u32, sid_number}
use Rattle.rules.specs.Decision.{Decision, carried_out, need◌else◌then◌, with_handle, can_issue, issued}
use Rattle.rules.specs.Restrict.{denied_all, restricting_to, narrows, valid_restrict, limited, restricted, restrict_numbered, restrict}
use Rattle.rules.proofs.Logic.{and_l, and_r, all_mem}
use Rattle.rules.proofs.Facts.{token_facts}
use Rattle.handle.specs.declared.Handle.{Handle}
use Rattle.handle.specs.Meaning.{handle_of}
use Rattle.token.proofs.Changing.{few_groups}
use Rattle.control.specs.Control.{ControlIn}
use Rattle.control.specs.Counters.{NextGiven}
use Rattle.state.specs.TokenCalls.{FoundAt}
use Rattle.state.specs.ReleaseFacts.{PartsIn}
use Rattle.state.proofs.TokenScalars.{empty_size}
use Rattle.state.proofs.InPlace.{in_slot}
use Rattle.answer.specs.Refusal.{refusal_of}
use Rattle.answer.specs.declared.refusal.Refusal.{Refusal}
use Rattle.answer.specs.declared.refusal.Refusal.TheVariants as refusals
use Rattle.decide.specs.declared.outcome.Outcome.{Outcome}
use Rattle.decide.specs.declared.located.Located.{Located}
use Rattle.decide.specs.Carried.{Carried}
use Rattle.decide.specs.Lookup.{refused}
use Rattle.decide.specs.Located.{LocatedBy}
use Rattle.decide.specs.Issue.{IssueRoom, RowIssued}
use Rattle.decide.proofs.Deciding.{stays, refuses, carried_as}
use Rattle.decide.proofs.LookupLaws as lookup
use Rattle.decide.proofs.Locating.{locating_refuses}
use Rattle.copy.specs.declared.asked.Asked.{Asked}
use Rattle.copy.specs.declared.restricted_row.Source.{Source}
use Rattle.copy.specs.declared.restricting.Sids.{Sids}
use Rattle.copy.specs.Copies.{RowCopied, Remade}
use Rattle.copy.specs.DeniedGroups.{Packed, GroupsDenied}
use Rattle.copy.specs.Numbers.{numbers_in}
use Rattle.copy.proofs.NumbersRead.{all_got}
use Rattle.copy.specs.Restricting.{Listed, ListMade, with_restricting, RestrictedTo}
use Rattle.copy.specs.Asked.{NumbersAsked}
use Rattle.copy.specs.Restrict.{Lists, IsSource, SourceAt, limited_to, TakesFrom, CopyMade, refusal_by, has_room, RestrictChecked, restricted_as, RestrictedIssued, RestrictCarried}
use Rattle.copy.proofs.RestrictingSids.{own_in_row}
use Rattle.copy.proofs.Copies.{issues_made}
use Rattle.copy.proofs.AskedNumbers.{numbers_read, none_enters, number_stays}

-- ---- the token in a slot

few_own : (t : Token) → token_valid t ≡ true → length t.limits.restricting ≤ max_restricting
unfolding limits_valid
few_own t v = leb-true (length t.limits.restricting) max_restricting (and_l (leb (length t.limits.restricting) max_restricting) _ (token_facts t v).limits)

is_mark : (b : Bool) → b ≡ eqb (mark b) 1
unfolding mark
is_mark true = refl
is_mark false = refl

pub sources : (i : ℕ) {ts ws : List ℕ} {g r : ℕ} → ws ≡ nth_record token_words i ts → g ≡ min (get_or ws Head.group_count 0) max_groups → r ≡ min (get_or ws Head.restricting_count 0) max_restricting
    → SourceAt i ts (record { groups = g; restricting = r; write_restricted = eqb (get_or ws Head.write_restricted 0) 1 })
unfolding token_row head
sources i {ts} {ws} row eg er = record {
  few_groups = omega arith;
  few_restricting = omega arith;
  source = λ t v e.
      let groups = few_groups t v in
      let sids = few_own t v in
      let g = ap (λ (l : List ℕ). get_or l Head.group_count 0) (row ∙ e) in
      let r = ap (λ (l : List ℕ). get_or l Head.restricting_count 0) (row ∙ e) in
      let write : get_or ws Head.write_restricted 0 ≡ mark t.limits.write_restricted = ap (λ (l : List ℕ). get_or l Head.write_restricted 0) (row ∙ e) in
      record {
        groups = omega arith;
        restricting = omega arith;
        write_restricted = is_mark t.limits.write_restricted ∙ ap (λ (w : ℕ). eqb w 1) (sym write);
      };
}

-- equal rows, equal restricting SIDs
size_in_row : (t : Token) → get_or (token_row t) Head.restricting_count 0 ≡ length t.limits.restricting
unfolding token_row head
size_in_row t = refl

own_one : (t u : Token) → token_valid t ≡ true → token_valid u ≡ true → token_row t ≡ token_row u → t.limits.restricting ≡ u.limits.restricting
own_one t u v w e =
    sym (take_pad max_restricting t.limits.restricting (few_own t v))
    ∙ ap₂ (λ (k : ℕ) (l : List ℕ). take k l) (sym (size_in_row t) ∙ ap (λ (l : List ℕ). get_or l Head.restricting_count 0) e ∙ size_in_row u)
    (sym (own_in_row t) ∙ ap (drop (head_words + max_groups)) e ∙ own_in_row u)
    ∙ take_pad max_restricting u.limits.restricting (few_own u w)

-- ---- the copy

pub packed : (t : Token) → token_valid t ≡ true → Packed t
unfolding groups_valid group_valid is32
packed t v g m =
    let f = token_facts t v in
    let h = all_mem group_valid t.groups (and_r (leb (length t.groups) max_groups) _ f.groups) m in
    let low : g.sid < 2 ^ 32 = ltb-true g.sid (2 ^ 32) (search (and_l, and_r)) in omega arith

pub makes : (n mark removed groups : ℕ) (list : Sids) (s : List ℕ) (deny_at deny_count : ℕ) {is ws ws₁ ws₂ ws₃ : List ℕ} {many : ℕ} → is ≡ numbers_in many (drop deny_at s) → many ≡ deny_count
    → Remade (limited_to n mark removed) ws ws₁ → GroupsDenied groups is ws₁ ws₂ → RestrictedTo list ws₂ ws₃
    → CopyMade n groups list mark removed s deny_at deny_count ws ws₃
unfolding limited_to with_groups with_restricting restricted limited
makes n mark removed groups list s deny_at deny_count {ws₂ = ws₂} all_of same a b c = record {
  long = c.long;
  made = λ deny later g given t z p e.
      let t₁ = limited_to n mark removed t in
      c.made (restricting_to given t.limits.restricting) z.listed z.few _
      (subst (λ (l : List ℕ). ws₂ ≡ token_row (with_groups (denied_all l t₁.groups) t₁)) (all_got deny_count (drop deny_at s) all_of same g) (b.made t₁ z.groups p (a.made.row t e)));
}

pub issues_restricted : (groups : ℕ) (list : Sids) (mark removed : ℕ) (body : List ℕ) (deny_at deny_count : ℕ) {n i s mask : ℕ} {hs : List Handle} {cs ts ds cs' ts' ds' : List ℕ} {r : Outcome}
    {ws ws' bs : List ℕ} → NextGiven token_counter cs n → RowCopied token_words i ts ws → CopyMade n groups list mark removed body deny_at deny_count ws ws' → RowCopied max_dacl i ds bs
    → RowIssued s mask ws' bs ts ds hs cs ts' ds' cs' r → RestrictedIssued i groups list mark removed body deny_at deny_count s mask ts ds hs cs ts' ds' cs' r
unfolding restricted_as restricted dacl_row
issues_restricted groups list mark removed body deny_at deny_count next w c b e = record {
  copy = λ deny later g given z. issues_made (restricted_as mark removed deny given) w.inside next
      (λ t v q. c.made deny later g given t (z t v q) (packed t v) (w.row ∙ q)) (λ t q. b.row ∙ q) e;
}

-- ---- what it is refused for

or_implies : (a b : Bool) → (a || b) ≡ implies (not a) b
unfolding implies
or_implies true b = refl
or_implies false b = refl

not_or_implies : (a b : Bool) → (not a || b) ≡ implies a b
unfolding implies
not_or_implies true b = refl
not_or_implies false b = refl

module _ (x : Source) (listed mark removed : ℕ) where
  -- what the copy of a restricted token must be
  abbrev pub narrow : Bool
  narrow = implies (not (eqb x.restricting 0)) (not (eqb listed 0) && implies (eqb mark 1) x.write_restricted)

  pub narrow_by : (eqb x.restricting 0 || not (eqb listed 0) && (not (eqb mark 1) || x.write_restricted)) ≡ narrow
  narrow_by =
      or_implies (eqb x.restricting 0) _
      ∙ ap (λ (b : Bool). implies (not (eqb x.restricting 0)) (not (eqb listed 0) && b)) (not_or_implies (eqb mark 1) x.write_restricted)

module _ (x : Source) (a : Asked) (mark removed : ℕ) (s : List ℕ) (deny_at deny_count : ℕ) {v w n : Bool} {is : List ℕ} {many : ℕ}
    (all_of : is ≡ numbers_in many (drop deny_at s)) (same : many ≡ deny_count) (j : v ≡ (all (is_below x.groups) is && distinct is))
    (ew : w ≡ within removed existing) (en : n ≡ narrow x a.list.count mark removed) where
  abbrev ok : Bool
  ok = leb mark 1 && w && v && n && a.known

  module _ (deny later : List ℕ) (g : times deny_count u32 (drop deny_at s) ≡ got deny later)
      (given : List ℕ) (t : Token) (z : IsSource t x) (l : a.list.count ≡ length (restricting_to given t.limits.restricting))
      (sids : List Sid) (known : a.known ≡ all (is_number sids) given) where
    is_narrow_lem : narrow x a.list.count mark removed ≡ narrows t mark given
    unfolding narrows is_restricted
    is_narrow_lem =
        let own = empty_size t.limits.restricting ∙ ap (λ (k : ℕ). eqb k 0) z.restricting in
        let copy = empty_size (restricting_to given t.limits.restricting) ∙ ap (λ (k : ℕ). eqb k 0) (sym l) in
        sym (λ i. implies (not (own i)) (not (copy i) && implies (eqb mark 1) (z.write_restricted i)))

    ok_valid : ok ≡ valid_restrict sids t mark removed deny given
    unfolding valid_restrict
    ok_valid =
        ap₂ ◌&&◌
        (ap₂ ◌&&◌
        (ap₂ ◌&&◌ (ap (λ (b : Bool). leb mark 1 && b) ew)
        (j ∙ ap (λ (l : List ℕ). all (is_below x.groups) l && distinct l) (all_got deny_count (drop deny_at s) all_of same g) ∙ ap (λ (k : ℕ). all (is_below k) deny && distinct deny) (sym z.groups))
        ∙ sym (and_assoc (leb mark 1 && within removed existing) (all (is_below (length t.groups)) deny) (distinct deny)))
        (en ∙ is_narrow_lem))
        known

    good : not ok ≡ false → (b : Bool) {o : Option Refusal} → o ≡ (if b then None else Some refusals.TableFull) → o ≡ refusal_by (valid_restrict sids t mark removed deny given) b
    good f b e = e ∙ ap (λ (y : Bool). refusal_by y b) (sym (not-false ok f) ∙ ok_valid)

  pub bad_restrict : {hs : List Handle} {cs ts : List ℕ} → not ok ≡ true → RestrictChecked x a mark removed s deny_at deny_count ts hs cs (Err refusals.BadField)
  bad_restrict f = record {
    left = tt;
    few = tt;
    fits = tt;
    refusal = λ deny later g given t z l sids known fit σ u p. rw (sym (ok_valid deny later g given t z l sids known) ∙ not-true ok f);
  }

  module _ (f : not ok ≡ false) {hs : List Handle} {cs ts : List ℕ} {b : Bool} (i : IssueRoom ts hs cs b) where
    abbrev room : Bool
    room = leb a.list.count max_restricting && b && a.fits

    by_room : {o : Option Refusal} → o ≡ (if room then None else Some refusals.TableFull) → (sids : List Sid) → a.fits ≡ fits_table sids → (σ : State) → valid σ ≡ true → {ds : List ℕ} → PartsIn σ ts ds hs cs
        → o ≡ (if has_room a.list.count σ sids then None else Some refusals.TableFull)
    by_room e sids fit σ u p = e ∙ (λ k. if leb a.list.count max_restricting && i.room σ u p k && fit k then None else Some refusals.TableFull)

    pub may_restrict : not room ≡ false → RestrictChecked x a mark removed s deny_at deny_count ts hs cs (Ok tt)
    may_restrict e =
        let all_room = not-false room e in
        let few = and_l (leb a.list.count max_restricting) b (and_l (leb a.list.count max_restricting && b) a.fits all_room) in
        record {
          left = i.left (and_r (leb a.list.count max_restricting) b (and_l (leb a.list.count max_restricting && b) a.fits all_room));
          few = leb-true a.list.count max_restricting few;
          fits = and_r (leb a.list.count max_restricting && b) a.fits all_room;
          refusal = λ deny later g given t z l sids known fit σ u p.
              good deny later g given t z l sids known f (has_room a.list.count σ sids) (by_room (rw all_room) sids fit σ u p);
        }

    pub no_room : not room ≡ true → RestrictChecked x a mark removed s deny_at deny_count ts hs cs (Err refusals.TableFull)
    no_room e = record {
      left = tt;
      few = tt;
      fits = tt;
      refusal = λ deny later g given t z l sids known fit σ u p.
          good deny later g given t z l sids known f (has_room a.list.count σ sids) (by_room (rw (not-true room e)) sids fit σ u p);
    }

-- ---- the request

-- the table that the SIDs given lead to, and their numbers in it
abbrev pub sids_after : List Given → State → List Sid
sids_after given σ = entered_all given σ.sids

abbrev pub numbers_after : List Given → State → List ℕ
numbers_after given σ = map (number_in (sids_after given σ)) given

-- the rule, once the handle is found
abbrev go : (mark removed : ℕ) (deny : List ℕ) (given : List Given) → ℕ → State → rules-handle.Handle → Token → Decision
go mark removed deny given s σ h t =
    need valid_restrict (sids_after given σ) t mark removed deny (numbers_after given σ) else bad_field then
    need has_room (length (restricting_to (numbers_after given σ) t.limits.restricting)) σ (sids_after given σ) else table_full then
    issued s h.mask (restricted σ.tokens.next mark removed deny (numbers_after given σ) t) (entering given σ)

-- entering changes neither handles nor tokens
by_handle : (σ : State) (s n mark removed : ℕ) (deny : List ℕ) (given : List Given)
    → restrict σ s n mark removed deny given ≡ with_handle σ s n Mask.duplicate (go mark removed deny given s σ)
unfolding restrict restrict_numbered entering with_sids with_handle find_handle state.handle_of token_of can_issue can_add_handle can_add_token
by_handle σ s n mark removed deny given = refl

abbrev decide : (ok room : Bool) → Decision → Decision
decide ok room rest = need ok else bad_field then need room else table_full then rest

stops : (ok room : Bool) (σ : State) (rest : Decision) {e : Refusal} → Some e ≡ refusal_by ok room → carried_out σ (decide ok room rest) ≡ stays σ (refusal_of e)
unfolding carried_out
stops true true σ rest h = cc
stops true false σ rest h = ap (λ (o : Option Refusal). stays σ (refusal_of (unwrap_or o refusals.TableFull))) (sym h)
stops false room σ rest h = ap (λ (o : Option Refusal). stays σ (refusal_of (unwrap_or o refusals.BadField))) (sym h)

goes_on : (ok room : Bool) (σ : State) (rest : Decision) → None ≡ refusal_by ok room → carried_out σ (decide ok room rest) ≡ carried_out σ rest
unfolding carried_out
goes_on true true σ rest h = refl
goes_on true false σ rest h = cc
goes_on false room σ rest h = cc

-- what the SIDs given come to for the token that is copied: what they are asked for, and the list, which is used only where they fit
pub record Taken (given : List Given) (σ : State) (t : Token) (a : Asked) : Type 0 where
  pub size : a.list.count ≡ length (restricting_to (numbers_after given σ) t.limits.restricting)
  pub known : a.known ≡ all (is_number (sids_after given σ)) (numbers_after given σ)
  pub fits : a.fits ≡ fits_table (sids_after given σ)
  pub listed : fits_table (sids_after given σ) ≡ true → Listed (restricting_to (numbers_after given σ) t.limits.restricting) a.list

-- from cs to cs' they enter
pub record SidsEntered (given : List Given) (σ : State) (cs cs' : List ℕ) : Type 0 where
  pub control : (τ : State) → τ.sids ≡ σ.sids → ControlIn τ cs → ControlIn (with_sids (sids_after given σ) τ) cs'

-- a token is issued and they enter
module _ (given : List Given) (σ : State) (s mask : ℕ) (u : Token) where
  parts_after : {ts ds : List ℕ} {hs : List Handle} {cs cs' : List ℕ} → SidsEntered given σ cs cs' → PartsIn (carried_out σ (issued s mask u σ)).state ts ds hs cs
      → PartsIn (carried_out σ (issued s mask u (entering given σ))).state ts ds hs cs'
  unfolding carried_out issued entering with_sids add_handle with_handles add_token with_tokens
  parts_after c k = record {
    handles = record { records = k.handles.records };
    control = c.control (add_handle s u.number mask (add_token u σ)) refl k.control;
    tokens = record { words = k.tokens.words; bytes = k.tokens.bytes };
  }

  same_answer : (carried_out σ (issued s mask u σ)).answer ≡ (carried_out σ (issued s mask u (entering given σ))).answer
  unfolding carried_out issued entering with_sids
  same_answer = refl

module _ (p : Reader Given) (s n mark removed : ℕ) (body : List ℕ) (deny_at deny_count sid_at sid_count : ℕ) {hs : List Handle} {ts : List ℕ} where
  pub restrict_unknown : {e : Refusal} → LocatedBy s n Mask.duplicate hs ts (Err e) → {cs ds : List ℕ}
      → RestrictCarried p s n mark removed body deny_at deny_count sid_at sid_count ts ds hs cs ts ds cs (Err e)
  restrict_unknown g = record {
    carried = λ deny given l. carried_as (λ σ v k. ap (carried_out σ) (by_handle σ s n mark removed deny given)) (locating_refuses g (go mark removed deny given s));
  }

  module _ {x : Located} (g : LocatedBy s n Mask.duplicate hs ts (Ok x)) {source : Source} (c : SourceAt x.slot ts source) {cs ds : List ℕ} {a : Asked}
      (m : (given : List Given) (later : List ℕ) → times sid_count p (drop sid_at body) ≡ got given later → (σ : State) → valid σ ≡ true → PartsIn σ ts ds hs cs → Taken given σ (state.token_of σ x.handle.token) a) where
    module _ (deny : List ℕ) (given : List Given) (l : Lists p body deny_at deny_count sid_at sid_count deny given) (σ : State) (v : valid σ ≡ true) (k : PartsIn σ ts ds hs cs) where
      abbrev own : Token
      own = state.token_of σ x.handle.token

      -- the refusal, in the state
      refused_by : {f : Result (Unit {0}) Refusal} → RestrictChecked source a mark removed body deny_at deny_count ts hs cs f → refused f ≡ refusal_by (valid_restrict (sids_after given σ) own mark removed deny (numbers_after given σ))
          (has_room (length (restricting_to (numbers_after given σ) own.limits.restricting)) σ (sids_after given σ))
      refused_by j =
          let there = in_slot x.handle.token g.there.slot v k.tokens g.there.inside in
          let y = m given l.later l.sids σ v k in
          j.refusal deny l.after l.denied (numbers_after given σ) own (c.source own there.is_valid there.words) y.size (sids_after given σ) y.known y.fits σ v k
          ∙ ap (λ (i : ℕ). refusal_by (valid_restrict (sids_after given σ) own mark removed deny (numbers_after given σ)) (has_room i σ (sids_after given σ))) y.size

      found : carried_out σ (restrict σ s n mark removed deny given) ≡ carried_out σ (go mark removed deny given s σ (handle_of x.handle) own)
      found =
          ap (carried_out σ) (by_handle σ s n mark removed deny given)
          ∙ lookup.goes_on σ s n Mask.duplicate (go mark removed deny given s σ) (g.refusal σ v k.handles k.tokens)
          ∙ ap (λ (h : rules-handle.Handle). carried_out σ (go mark removed deny given s σ h (state.token_of σ h.token))) (sym (g.there.handle σ v k.handles))

    pub restrict_refused : {e : Refusal} → RestrictChecked source a mark removed body deny_at deny_count ts hs cs (Err e)
        → RestrictCarried p s n mark removed body deny_at deny_count sid_at sid_count ts ds hs cs ts ds cs (Err e)
    restrict_refused {e} j = record {
      carried = λ deny given l. refuses e (λ σ v k. found deny given l σ v k ∙ stops _ _ σ _ (refused_by deny given l σ v k j));
    }

    module _ (j : RestrictChecked source a mark removed body deny_at deny_count ts hs cs (Ok tt)) where
      module _ (deny : List ℕ) (given : List Given) (l : Lists p body deny_at deny_count sid_at sid_count deny given) (σ : State) (v : valid σ ≡ true) (k : PartsIn σ ts ds hs cs) where
        -- whatever token is in the slot has the same restricting SIDs
        takes : (t : Token) → token_valid t ≡ true → nth_record token_words x.slot ts ≡ token_row t → TakesFrom (numbers_after given σ) source.groups a.list t
        takes t w e =
            let there = in_slot x.handle.token g.there.slot v k.tokens g.there.inside in
            let u = m given l.later l.sids σ v k in
            let one = own_one (state.token_of σ x.handle.token) t there.is_valid w (sym there.words ∙ e) in
            let own = subst (λ (i : List ℕ). Listed (restricting_to (numbers_after given σ) i) a.list) one (u.listed (sym u.fits ∙ j.fits)) in
            let few = subst (λ (i : ℕ). i ≤ max_restricting) (u.size ∙ ap (λ (i : List ℕ). length (restricting_to (numbers_after given σ) i)) one) j.few in
            record { groups = (c.source t w e).groups; listed = own; few = few }

        -- the copy, by the numbers that they have in this state
        abbrev copy : Token
        copy = restricted_as mark removed deny (numbers_after given σ) σ.tokens.next (state.token_of σ x.handle.token)

        goes_through : carried_out σ (restrict σ s n mark removed deny given) ≡ carried_out σ (issued s x.handle.mask copy (entering given σ))
        unfolding restricted_as
        goes_through = found deny given l σ v k ∙ goes_on _ _ σ _ (refused_by deny given l σ v k j)

        copied : {cs₁ ts' ds' : List ℕ} {r : Outcome} → RestrictedIssued x.slot source.groups a.list mark removed body deny_at deny_count s x.handle.mask ts ds hs cs ts' ds' cs₁ r
            → Carried (λ τ. issued s x.handle.mask (restricted_as mark removed deny (numbers_after given σ) τ.tokens.next (state.token_of τ x.handle.token)) τ) ts ds hs cs ts' ds' cs₁ (Ok r)
        copied i = (i.copy deny l.after l.denied (numbers_after given σ) takes).carried x.handle.token g.there.slot

        fitting : fits_table (sids_after given σ) ≡ true
        fitting = sym (m given l.later l.sids σ v k).fits ∙ j.fits

      -- issued, and then the SIDs enter
      pub restricts : {cs₁ cs' ts' ds' : List ℕ} {r : Outcome}
          → RestrictedIssued x.slot source.groups a.list mark removed body deny_at deny_count s x.handle.mask ts ds hs cs ts' ds' cs₁ r
          → ((given : List Given) (later : List ℕ) → times sid_count p (drop sid_at body) ≡ got given later → (σ : State) → valid σ ≡ true → PartsIn σ ts ds hs cs → fits_table (sids_after given σ) ≡ true
          → SidsEntered given σ cs₁ cs')
          → RestrictCarried p s n mark removed body deny_at deny_count sid_at sid_count ts ds hs cs ts' ds' cs' (Ok r)
      restricts i enters = record {
        carried = λ deny given l. record {
          parts = λ σ v k. rw (goes_through deny given l σ v k)
              (parts_after given σ s x.handle.mask (copy deny given l σ v k) (enters given l.later l.sids σ v k (fitting deny given l σ v k)) ((copied deny given l σ v k i).parts σ v k));
          answer = λ σ v k. rw (goes_through deny given l σ v k) ((copied deny given l σ v k i).answer σ v k ∙ same_answer given σ s x.handle.mask (copy deny given l σ v k));
          fit = λ σ v k. (copied deny given l σ v k i).fit σ v k;
        };
      }

-- ---- by number: none enters

module _ (count : ℕ) (bytes : List ℕ) {given : List Given} {later : List ℕ} (e : times count sid_number bytes ≡ got given later) (σ : State) where
  numbers : (ns : List ℕ) × (map by_number ns ≡ given) × (times count u32 bytes ≡ got ns later)
  numbers = numbers_read count bytes e

  same_sids : sids_after given σ ≡ σ.sids
  same_sids = ap (λ (l : List Given). entered_all l σ.sids) (sym numbers.1) ∙ none_enters numbers.0 σ.sids

  same_numbers : numbers_after given σ ≡ numbers.0
  same_numbers = ap (map (number_in (sids_after given σ))) (sym numbers.1) ∙ number_stays (sids_after given σ) numbers.0

  pub none_entered : (cs : List ℕ) → SidsEntered given σ cs cs
  unfolding with_sids
  none_entered cs = record {
    control = λ τ e c. subst (λ (y : List Sid). ControlIn (with_sids y τ) cs) (e ∙ sym same_sids) c;
  }

module _ (token : ℕ) {i sid_at sid_count many : ℕ} {ts ds body : List ℕ} {hs : List Handle} {cs : List ℕ} {x : Source} {list : Sids} {a : Asked}
    (found : FoundAt token ts i) (inside : i < token_slots) (c : SourceAt i ts x) (same : many ≡ sid_count) (m : ListMade i x.restricting ts body sid_at many list) (q : NumbersAsked list body sid_at sid_count cs a) where
  pub numbers_taken : (given : List Given) (later : List ℕ) → times sid_count sid_number (drop sid_at body) ≡ got given later → (σ : State) → valid σ ≡ true → PartsIn σ ts ds hs cs
      → Taken given σ (state.token_of σ token) a
  numbers_taken given later e σ v k =
      let t = state.token_of σ token in
      let there = in_slot token found v k.tokens inside in
      let r = numbers sid_count (drop sid_at body) e σ in
      let sids = same_sids sid_count (drop sid_at body) e σ in
      let ns = same_numbers sid_count (drop sid_at body) e σ in
      let made = subst (λ (l : List ℕ). Listed (restricting_to l t.limits.restricting) list) (sym ns)
      ((subst (λ (n : ℕ). ListMade i x.restricting ts body sid_at n list) same m).listed r.0 later r.2 t (c.source t there.is_valid there.words).restricting there.words) in
      let listed = subst (λ (l : Sids). Listed (restricting_to (numbers_after given σ) t.limits.restricting) l) (sym q.same) made in
      record {
        size = listed.count;
        known = q.known r.0 later r.2 σ v k.control ∙ ap₂ (λ (y : List Sid) (l : List ℕ). all (is_number y) l) (sym sids) (sym ns);
        fits = q.fits σ v ∙ ap fits_table (sym sids);
        listed = λ fit. listed;
      }
