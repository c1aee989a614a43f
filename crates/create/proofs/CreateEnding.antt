-- Request 3, end by end. Assumes nothing.
use Prim.Native.Nat.{ℕ, zero, suc, ◌<◌, min}
use native.Mathlib.Omega.{arith}
use mathlib.Core.Path.{◌≡◌, refl, sym, ap, ap₂, ◌∙◌}
use mathlib.Core.Bool.{Bool, true, false, not, ◌&&◌, and-true, and-false}
use mathlib.Core.List.{List, [], ◌∷◌, map}
use lib.Dec.{leb}
use lib.ListN.{length, replicate, drop, length-map}
use borrow.Author.Tests.{not-false, not-true}
use Rattle.std.specs.Prelude.{Option, None, Some, Result, Ok, Err, unwrap_or}
use Rattle.table.specs.Lists.{pad}
use Rattle.rules.specs.Basic.{all}
use Rattle.rules.specs.Bits.{has, within}
use Rattle.rules.specs.Mask.{all_rights}
use Rattle.rules.specs.Number.{Read, got, bad}
use Rattle.rules.specs.Refusal.{privilege_not_held, bad_field, table_full}
use Rattle.rules.specs.Privileges.{existing, create_token, granted}
use Rattle.rules.specs.Group.{sid_of}
use Rattle.rules.specs.Token as rules
use Rattle.rules.specs.Token.{max_groups, max_dacl, new_token, no_defaults, primary_of}
use Rattle.rules.specs.Sid.{Sid}
use Rattle.rules.specs.SidTable.{max_sids, is_number, fits_table}
use Rattle.rules.specs.Given.{by_number, GivenGroup, number_in, group_sid, group_in}
use Rattle.rules.specs.State.{State, station_count, held, used, with_sids, entering}
use Rattle.rules.specs.Memory.{token_counter, token_words, dacl_row}
use Rattle.rules.specs.Valid.{valid}
use Rattle.rules.specs.Request.{Reader, times, follow, ◌>>=◌, give, u32, sid_number, group}
use Rattle.rules.specs.Decision.{Decision, Served, need◌else◌then◌, carried_out, can_issue, issued}
use Rattle.rules.specs.Create.{valid_pair, valid_integrity, valid_create, entered, create_numbered, create}
use Rattle.rules.proofs.Logic.{and_l, and_r, and_i}
use Rattle.rules.proofs.Facts.{valid_facts, facts_valid}
use Rattle.rules.proofs.Kept.{mark}
use Rattle.rules.proofs.SidNumbers.{is_by_number, numbers_enter_none, sids_fit, sids_few}
use Rattle.handle.specs.declared.Handle.{Handle}
use Rattle.sid.specs.Numbers.{NumberIn}
use Rattle.token.specs.NewRow.{Headed}
use Rattle.control.specs.Counters.{NextGiven}
use Rattle.control.specs.Sids.{SidCount}
use Rattle.state.specs.TokenCalls.{Held, Used}
use Rattle.state.specs.ReleaseFacts.{PartsIn}
use Rattle.state.specs.HandleFacts.{changed}
use Rattle.answer.specs.Answer.{answer_of, Fit}
use Rattle.answer.specs.Refusal.{refusal_of}
use Rattle.answer.specs.declared.refusal.Refusal.{Refusal}
use Rattle.answer.specs.declared.refusal.Refusal.TheVariants as refusal
use Rattle.body.specs.declared.fields.CreateFields.{CreateFields}
use Rattle.decide.specs.declared.outcome.Outcome.{Outcome}
use Rattle.decide.specs.Carried.{ended, Carried}
use Rattle.decide.specs.Lookup.{refused}
use Rattle.decide.specs.Issue.{IssueRoom, RowIssued}
use Rattle.decide.proofs.Deciding.{stays, fails, holds, refuses, used_parts, carried_as}
use Rattle.decide.proofs.Issuing.{room_refuses}
use Rattle.decide.proofs.RowIssuing.{ends_issuing}
use Rattle.create.specs.NewGroups.{new_refusal, fits_pair, fits_group, GroupsRead}
use Rattle.create.specs.Create.{RowMade, KnownSids, RowCreated, CreateCarried}
use Rattle.create.proofs.NewGroups.{refused_bad, refused_full, refused_none, all_long}

-- ---- what is refused, and decided

-- for want of more room too
pub but_for : (good room more : Bool) {e : Refusal} → Some e ≡ new_refusal good room → Some e ≡ new_refusal good (more && room)
but_for true true more h = cc
but_for true false more h = h ∙ ap (new_refusal true) (sym (and-false more))
but_for false room more h = h

pub is_good : (good room : Bool) → None ≡ new_refusal good room → good ≡ true
is_good true room h = refl
is_good false room h = cc

pub has_room : (good room : Bool) → None ≡ new_refusal good room → room ≡ true
has_room true true h = refl
has_room true false h = cc
has_room false room h = cc

-- the room counts only behind the fields
pub room_as : (good : Bool) {x y : Bool} → (good ≡ true → x ≡ y) → new_refusal good x ≡ new_refusal good y
room_as true h = ap (new_refusal true) (h refl)
room_as false h = refl

module _ (σ : State) where
  pub stops : (good room : Bool) (rest : Decision) {e : Refusal} → Some e ≡ new_refusal good room
      → carried_out σ (need good else bad_field then need room else table_full then rest) ≡ stays σ (refusal_of e)
  unfolding carried_out
  stops true true rest h = cc
  stops true false rest h = ap (λ (o : Option Refusal). stays σ (refusal_of (unwrap_or o refusal.TableFull))) (sym h)
  stops false room rest h = ap (λ (o : Option Refusal). stays σ (refusal_of (unwrap_or o refusal.BadField))) (sym h)

  pub goes_on : (good room : Bool) (rest : Decision) → good ≡ true → carried_out σ (need good else bad_field then need room else table_full then rest) ≡ carried_out σ (need room else table_full then rest)
  unfolding carried_out
  goes_on good room rest h = rw h

  -- whatever it goes on with
  pub stops_alike : (room : Bool) (rest other : Decision) {e : Refusal} → Some e ≡ new_refusal true room
      → carried_out σ (need room else table_full then rest) ≡ carried_out σ (need room else table_full then other)
  unfolding carried_out
  stops_alike true rest other h = cc
  stops_alike false rest other h = refl

-- ---- the token

-- every pair is good and every number is in the table
all_fit : (sids : List Sid) (user : ℕ) (gs : List GivenGroup)
    → all (fits_group sids user) gs ≡ (all (valid_pair user) (map (group_in sids) gs) && all (is_number sids) (map sid_of (map (group_in sids) gs)))
unfolding all fits_group fits_pair sid_of
all_fit sids user [] = refl
all_fit sids user (g ∷ gs) =
    ap (λ (b : Bool). valid_pair user (group_in sids g) && is_number sids (group_in sids g).sid && b) (all_fit sids user gs)
    ∙ swap (valid_pair user (group_in sids g)) (is_number sids (group_in sids g).sid) (all (valid_pair user) (map (group_in sids) gs)) (all (is_number sids) (map sid_of (map (group_in sids) gs)))
  where
    swap : (a b c d : Bool) → (a && b && (c && d)) ≡ (a && c && (b && d))
    swap false b c d = refl
    swap true true c d = refl
    swap true false false d = refl
    swap true false true d = refl

-- the order of the tests
sorted : (x l p v m : Bool) → (x && l && p && (v && m)) ≡ ((x && v) && (l && (p && m)))
sorted false l p v m = refl
sorted true false p v m = sym (and-false v)
sorted true true false v m = sym (and-false v)
sorted true true true v m = refl

-- a is the test of the other fields, u that of the user's number
module _ (n known : ℕ) (f : CreateFields ℕ) (s : List ℕ) {a u : Bool} (ea : a ≡ (valid_integrity f.integrity && within f.by_default f.present && within f.present existing)) (i : NumberIn f.user known u) where
  module _ (sids : List Sid) (l : length sids ≡ known) (gs : List GivenGroup) where
    abbrev all_valid : Bool
    all_valid = valid_create sids f.user f.integrity f.present f.by_default (map (group_in sids) gs)

    abbrev all_read : Bool
    all_read = leb (length gs) max_groups && all (fits_group sids f.user) gs

    valid_is : all_valid ≡ ((a && u) && all_read)
    unfolding valid_create all
    valid_is =
        sorted (valid_integrity f.integrity && within f.by_default f.present && within f.present existing) (leb (length (map (group_in sids) gs)) max_groups)
        (all (valid_pair f.user) (map (group_in sids) gs)) (is_number sids f.user) (all (is_number sids) (map sid_of (map (group_in sids) gs)))
        ∙ ap₂ ◌&&◌ (ap₂ ◌&&◌ (sym ea) (sym (i.is sids l))) (ap₂ (λ (k : ℕ) (b : Bool). leb k max_groups && b) (length-map gs (group_in sids)) (sym (all_fit sids f.user gs)))

    valid_then : not (a && u) ≡ false → all_valid ≡ all_read
    valid_then t = valid_is ∙ ap (λ (b : Bool). b && all_read) (not-false (a && u) t)

  pub row_refused : {ws : List ℕ} → length ws ≡ token_words → not (a && u) ≡ true → RowMade n known f s ws (Err refusal.BadField)
  row_refused long t = record {
    long = long;
    refusal = λ sids l gs later h. refused_bad _ true (valid_is sids l gs ∙ ap (λ (b : Bool). b && all_read sids l gs) (not-true (a && u) t));
    made = λ sids l gs later h. tt;
  }

  module _ (t : not (a && u) ≡ false) {ws : List ℕ} where
    refusal_is : {r : Result (Unit {0}) Refusal} → GroupsRead f.user known s f.at f.count ws r
        → (sids : List Sid) → length sids ≡ known → (gs : List GivenGroup) (later : List ℕ) → times f.count (group sid_number) (drop f.at s) ≡ got gs later
        → refused r ≡ new_refusal (valid_create sids f.user f.integrity f.present f.by_default (map (group_in sids) gs)) true
    refusal_is g sids l gs later h = g.refusal sids l gs later h ∙ ap (λ (b : Bool). new_refusal b true) (sym (valid_then sids l gs t))

    pub groups_refused : {e : Refusal} → GroupsRead f.user known s f.at f.count ws (Err e) → RowMade n known f s ws (Err e)
    groups_refused g = record { long = g.long; refusal = refusal_is g; made = λ sids l gs later h. tt }

    pub row_made : {o : Unit {0}} → GroupsRead f.user known s f.at f.count ws (Ok o) → {ws' : List ℕ}
        → Headed n (primary_of n f.user f.session f.integrity) (granted f.present f.by_default) f.count ws ws' → (v : Unit {0}) → RowMade n known f s ws' (Ok v)
    row_made g w v = record {
      long = w.long g.long;
      refusal = refusal_is g;
      made = λ sids l gs later h.
          w.row (map entered (map (group_in sids) gs)) (g.given sids l gs later h)
          (length-map (map (group_in sids) gs) entered ∙ length-map gs (group_in sids) ∙ all_long (group sid_number) f.count (drop f.at s) h);
    }

-- ---- the table

-- at most 256
pub known : {cs : List ℕ} {n : ℕ} → SidCount cs n → KnownSids cs (min n max_sids)
known {n = n} c = record {
  few = omega arith;
  count = λ σ v i. omega (arith, c.count σ i, sids_few σ.sids (valid_facts σ v).loose.sids);
}

-- ---- issued in the state where the used bit is set

no_dacl : (u : rules.Token) → u.defaults.dacl ≡ [] → replicate max_dacl 0 ≡ dacl_row u
unfolding dacl_row pad
no_dacl u e = sym (ap (pad max_dacl) e)

module _ (s : ℕ) {ws : List ℕ} {hs : List Handle} {cs ts ds : List ℕ} {b : Bool} (i : IssueRoom ts hs cs b) where
  pub none_issued : not b ≡ true → RowCreated s ws ts ds hs cs ts ds cs (Err refusal.TableFull)
  none_issued f = record {
    carried = λ u w d. room_refuses i (λ σ. issued s all_rights u (used create_token s σ)) f;
    refusal = λ σ v p. refused_full true _ refl (sym (i.room σ v p) ∙ not-true b f);
  }

  pub create_issues : not b ≡ false → s < station_count → {ts₁ cs' ts' ds' : List ℕ} {r : Outcome} → Used create_token s ts cs ts₁
      → RowIssued s all_rights ws (replicate max_dacl 0) ts₁ ds hs cs ts' ds' cs' r → RowCreated s ws ts ds hs cs ts' ds' cs' (Ok r)
  unfolding has
  create_issues f in8 m k = record {
    carried = λ u w d. carried_as (λ σ v p. holds (can_issue σ) σ table_full _ (ap not (sym (i.room σ v p)) ∙ f)) (ends_issuing (λ σ. u) (λ σ. used create_token s σ) k λ σ v p. record {
      valid = facts_valid (used create_token s σ) (mark σ s create_token (valid_facts σ v) in8 refl).step.facts;
      parts = used_parts σ v m p;
      words = w;
      bytes = no_dacl u d;
      decided = refl;
    });
    refusal = λ σ v p. refused_none true _ refl (sym (i.room σ v p) ∙ not-false b f);
  }

-- ---- SIDs by number

-- each thing that is read passes; B is what its bytes are
pub times_all : {A : Type 0} (p : Reader A) (f : A → Bool) (B : List ℕ → Type 0)
    → ((bytes : List ℕ) → B bytes → (a : A) (later : List ℕ) → p bytes ≡ got a later → (f a ≡ true) × B later)
    → (n : ℕ) (bytes : List ℕ) → B bytes → (xs : List A) (later : List ℕ) → times n p bytes ≡ got xs later → all f xs ≡ true
unfolding times follow give all
times_all p f B h zero bytes b xs later e = let q : xs ≡ [] = cc in rw q refl
times_all p f B h (suc n) bytes b xs later e = one (p bytes) refl (times_all p f B h n) e
  where
    rest : (a : _) → f a ≡ true → (x : Read (List _)) → ((zs : List _) (m : List ℕ) → x ≡ got zs m → all f zs ≡ true) → follow x (λ ys. give (a ∷ ys)) ≡ got xs later → all f xs ≡ true
    rest a k (got ys m) ih t = let q : xs ≡ a ∷ ys = cc in rw q (and_i k (ih ys m refl))
    rest a k bad ih t = cc

    one : (x : Read _) → p bytes ≡ x → ((l : List ℕ) → B l → (zs : List _) (m : List ℕ) → times n p l ≡ got zs m → all f zs ≡ true)
        → follow x (λ a l. follow (times n p l) (λ ys. give (a ∷ ys))) ≡ got xs later → all f xs ≡ true
    one (got a l) d ih t = let r = h bytes b a l d in rest a r.0 (times n p l) (ih l r.1) t
    one bad d ih t = cc

abbrev of_number : GivenGroup → Bool
of_number g = is_by_number g.sid

group_number : (bytes : List ℕ) (g : GivenGroup) (later : List ℕ) → group sid_number bytes ≡ got g later → of_number g ≡ true
unfolding group sid_number ◌>>=◌ follow give is_by_number
group_number bytes g later e = first (u32 bytes) e
  where
    second : (k : ℕ) (x : Read ℕ) → follow x (λ v. give (record { sid = by_number k; attributes = v })) ≡ got g later → of_number g ≡ true
    second k (got v l) t = let q : record { sid = by_number k; attributes = v } ≡ g = cc in ap of_number (sym q)
    second k bad t = cc

    first : (x : Read ℕ) → follow (follow x (λ k. give (by_number k))) (λ i. ◌>>=◌ u32 (λ v. give (record { sid = i; attributes = v }))) ≡ got g later → of_number g ≡ true
    first (got k l) t = second k (u32 l) t
    first bad t = cc

all_numbers : (gs : List GivenGroup) → all of_number gs ≡ true → all is_by_number (map group_sid gs) ≡ true
unfolding all group_sid
all_numbers [] h = refl
all_numbers (g ∷ gs) h = and_i (and_l (of_number g) (all of_number gs) h) (all_numbers gs (and_r (of_number g) (all of_number gs) h))

-- they enter nothing
by_numbers : (σ : State) (s user session integrity present by_default n : ℕ) (bytes : List ℕ) (gs : List GivenGroup) (later : List ℕ) → times n (group sid_number) bytes ≡ got gs later
    → create σ s (by_number user) session integrity present by_default gs ≡ create_numbered σ s user session integrity present by_default (map (group_in σ.sids) gs)
unfolding create entering with_sids number_in all is_by_number
by_numbers σ s user session integrity present by_default n bytes gs later e =
    ap (λ (t : List Sid). create_numbered (with_sids t σ) s user session integrity present by_default (map (group_in t) gs))
    (numbers_enter_none (by_number user ∷ map group_sid gs) σ.sids (all_numbers gs (times_all (group sid_number) of_number (λ l. Unit {0}) (λ l u g m d. (group_number l g m d, tt)) n bytes tt gs later e)))

-- ---- the request

-- what a request comes to in a state, and the parts then
pub record At (y : Served) (ts' ds' : List ℕ) (hs : List Handle) (cs' : List ℕ) (r : Result Outcome Refusal) : Type 0 where
  pub parts : PartsIn y.state ts' ds' (changed hs (ended r).change) cs'
  pub answer : answer_of ts' ds' (ended r).answer ≡ y.answer
  pub fit : Fit ts' ds' (ended r).answer

pub carried_at : {x : State → Decision} {hs : List Handle} {cs ts ds cs' ts' ds' : List ℕ} {r : Result Outcome Refusal} → Carried x ts ds hs cs ts' ds' cs' r
    → (σ : State) → valid σ ≡ true → PartsIn σ ts ds hs cs → At (carried_out σ (x σ)) ts' ds' hs cs' r
carried_at c σ v p = record { parts = c.parts σ v p; answer = c.answer σ v p; fit = c.fit σ v p }

pub carried_each : {x : State → Decision} {hs : List Handle} {cs ts ds cs' ts' ds' : List ℕ} {r : Result Outcome Refusal} (y : State → Served)
    → ((σ : State) → valid σ ≡ true → PartsIn σ ts ds hs cs → carried_out σ (x σ) ≡ y σ)
    → ((σ : State) → valid σ ≡ true → PartsIn σ ts ds hs cs → At (y σ) ts' ds' hs cs' r) → Carried x ts ds hs cs ts' ds' cs' r
carried_each y e c = record {
  parts = λ σ v p. rw (e σ v p) (c σ v p).parts;
  answer = λ σ v p. rw (e σ v p) (c σ v p).answer;
  fit = λ σ v p. (c σ v p).fit;
}

-- the new token, and whether it may be made, by the table of a state
abbrev made : CreateFields ℕ → List GivenGroup → State → ℕ → rules.Token
made f gs σ j = new_token j (primary_of j f.user f.session f.integrity) (granted f.present f.by_default) (map entered (map (group_in σ.sids) gs))

abbrev good : CreateFields ℕ → List GivenGroup → State → Bool
good f gs σ = valid_create σ.sids f.user f.integrity f.present f.by_default (map (group_in σ.sids) gs)

abbrev issuing : ℕ → CreateFields ℕ → List GivenGroup → State → ℕ → Decision
issuing s f gs σ j = issued s all_rights (made f gs σ j) (used create_token s σ)

module _ (s : ℕ) (f : CreateFields ℕ) (body : List ℕ) {hs : List Handle} {cs ts ds : List ℕ} {b : Bool} (h : Held create_token s ts cs b) where
  is_held : {c : Bool} → not b ≡ c → (σ : State) → valid σ ≡ true → PartsIn σ ts ds hs cs → not (held σ s create_token) ≡ c
  is_held t σ v p = ap not (sym (h.held σ v p.tokens p.control)) ∙ t

  pub create_not_held : not b ≡ true → CreateCarried s f body ts ds hs cs ts ds cs (Err refusal.PrivilegeNotHeld)
  unfolding create_numbered
  create_not_held t = record {
    carried = λ gs later q. refuses refusal.PrivilegeNotHeld λ σ v p.
        ap (carried_out σ) (by_numbers σ s f.user f.session f.integrity f.present f.by_default f.count (drop f.at body) gs later q)
        ∙ fails (held σ s create_token) σ privilege_not_held _ (is_held t σ v p);
  }

  module _ (t : not b ≡ false) where
    module _ (gs : List GivenGroup) (later : List ℕ) (q : times f.count (group sid_number) (drop f.at body) ≡ got gs later) (σ : State) (v : valid σ ≡ true) (p : PartsIn σ ts ds hs cs) where
      -- past 4
      decided : carried_out σ (create σ s (by_number f.user) f.session f.integrity f.present f.by_default gs)
          ≡ carried_out σ (need good f gs σ else bad_field then need can_issue σ && fits_table σ.sids else table_full then issuing s f gs σ σ.tokens.next)
      unfolding create_numbered
      decided =
          ap (carried_out σ) (by_numbers σ s f.user f.session f.integrity f.present f.by_default f.count (drop f.at body) gs later q)
          ∙ holds (held σ s create_token) σ privilege_not_held _ (is_held t σ v p)

      fits : fits_table σ.sids ≡ true
      fits = sids_fit σ.sids (valid_facts σ v).loose.sids

    module _ {n known : ℕ} (k : KnownSids cs known) {ws : List ℕ} where
      pub create_refused : {e : Refusal} → RowMade n known f body ws (Err e) → CreateCarried s f body ts ds hs cs ts ds cs (Err e)
      create_refused {e} g = record {
        carried = λ gs later q. refuses e λ σ v p.
            decided gs later q σ v p
            ∙ stops σ (good f gs σ) (can_issue σ && fits_table σ.sids) (issuing s f gs σ σ.tokens.next)
            (but_for (good f gs σ) (fits_table σ.sids) (can_issue σ)
            (g.refusal σ.sids (k.count σ v p.control) gs later q ∙ ap (new_refusal (good f gs σ)) (sym (fits gs later q σ v p))));
      }

      pub creates : {o : Unit {0}} → RowMade n known f body ws (Ok o) → NextGiven token_counter cs n → {cs' ts' ds' : List ℕ} {r : Result Outcome Refusal} → RowCreated s ws ts ds hs cs ts' ds' cs' r
          → CreateCarried s f body ts ds hs cs ts' ds' cs' r
      unfolding new_token no_defaults
      creates g next c = record {
        carried = λ gs later q. carried_each (λ σ. carried_out σ (need can_issue σ else table_full then issuing s f gs σ n)) (λ σ v p.
            decided gs later q σ v p
            ∙ goes_on σ (good f gs σ) (can_issue σ && fits_table σ.sids) (issuing s f gs σ σ.tokens.next) (is_good (good f gs σ) true (g.refusal σ.sids (k.count σ v p.control) gs later q))
            ∙ ap₂ (λ (b : Bool) (j : ℕ). carried_out σ (need b else table_full then issuing s f gs σ j))
            (ap (λ (b : Bool). can_issue σ && b) (fits gs later q σ v p) ∙ and-true (can_issue σ)) (sym (next.next σ p.control)))
            (λ σ v p. carried_at (c.carried (made f gs σ n) (g.made σ.sids (k.count σ v p.control) gs later q) refl) σ v p);
      }
