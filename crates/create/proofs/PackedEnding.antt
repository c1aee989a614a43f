-- Request 14, end by end. Assumes nothing.
use Prim.Native.Nat.{ℕ, ◌≤◌}
use native.Mathlib.Omega.{arith}
use mathlib.Core.Path.{◌≡◌, refl, sym, ap, ap₂, subst, ◌∙◌}
use mathlib.Core.Bool.{Bool, true, false, not, ◌&&◌, ◌||◌, and-true}
use mathlib.Core.List.{List, [], ◌∷◌, map}
use lib.Dec.{leb, eqb}
use lib.ListN.{length, take, drop, length-take, length-map}
use lib.Seq.{take_all}
use borrow.Author.Tests.{not-false, not-true, eq-eqb, ne_eqb, leb-true}
use Rattle.std.specs.Prelude.{Option, None, Some, is_some, IfSome, Result, Ok, Err, if◌then◌else◌}
use Rattle.rules.specs.Basic.{all, is_below, same, implies, both_or_neither}
use Rattle.rules.specs.Bits.{has, within}
use Rattle.rules.specs.Mask.{all_rights}
use Rattle.rules.specs.Number.{Read, got, bad, read_number, max32}
use Rattle.rules.specs.Growth.{Mem, here, there}
use Rattle.rules.specs.Refusal.{privilege_not_held, bad_field, table_full}
use Rattle.rules.specs.Privileges.{existing, create_token, granted}
use Rattle.rules.specs.Group.{sid_of, is_fixed, is_mandatory, is_logon, is_enabled_by_default, is_deny_only}
use Rattle.rules.specs.Token as rules
use Rattle.rules.specs.Token.{max_groups, new_token, no_defaults, primary_of}
use Rattle.rules.specs.Sid.{Sid, valid_sid, packed, is_packed, sid_in, read_sid}
use Rattle.rules.specs.SidTable.{max_sids, is_number, is_in, number_of, fits_table, sids_valid}
use Rattle.rules.specs.SidRows.{sid_row, row_sid, write_sids, sid_words_valid}
use Rattle.rules.specs.Given.{Given, by_number, by_sid, GivenGroup, number_in, group_sid, group_in, entered_by, entered_all}
use Rattle.rules.specs.State.{State, station_at, caller_number, caller, token_of, held, used, change_token, put_token, with_tokens, with_handles, with_sids, add_token, add_handle, can_add_token, can_add_handle, entering}
use Rattle.rules.specs.Memory.{token_counter, token_words, token_row}
use Rattle.rules.specs.Valid.{valid, is_byte}
use Rattle.rules.specs.Request.{times, follow, ◌>>=◌, give, u32, packed_sid, group}
use Rattle.rules.specs.Decision.{Decision, Served, need◌else◌then◌, carried_out, can_issue, issued}
use Rattle.rules.specs.Create.{givable, valid_pair, valid_integrity, valid_create, entered, create_numbered, create}
use Rattle.rules.proofs.Logic.{and_l, and_r, and_i, not_both, all_mem, mem_all, mem_right}
use Rattle.rules.proofs.Same.{same_eq, same_refl}
use Rattle.rules.proofs.Sids.{all_drop, read_form, row_one}
use Rattle.rules.proofs.SidNumbers.{sids_fit, sids_few, sids_two, number_one, number_is, number_kept, stays_in, entered_in, entered_by_long, entered_all_long, all_entered_in}
use Rattle.rules.proofs.SidWords.{written_valid}
use Rattle.rules.proofs.Widths.{Got, number}
use Rattle.rules.proofs.Facts.{valid_facts}
use Rattle.handle.specs.declared.Handle.{Handle}
use Rattle.token.specs.NewRow.{Headed}
use Rattle.control.specs.Counters.{NextGiven}
use Rattle.control.specs.Sids.{SidsCopied, SidsSet}
use Rattle.state.specs.TokenCalls.{Held}
use Rattle.state.specs.ReleaseFacts.{PartsIn}
use Rattle.answer.specs.declared.refusal.Refusal.{Refusal}
use Rattle.answer.specs.declared.refusal.Refusal.TheVariants as refusal
use Rattle.given.specs.Given.{Capped}
use Rattle.body.specs.declared.fields.CreateFields.{CreateFields}
use Rattle.decide.specs.declared.outcome.Outcome.{Outcome}
use Rattle.decide.specs.Lookup.{refused}
use Rattle.decide.proofs.Deciding.{fails, holds, refuses}
use Rattle.create.specs.NewGroups.{new_refusal}
use Rattle.create.specs.PackedGroups.{judged_row, judged_given, judged_group, RowAt, NumberEntered, GroupsEntered, PackedRead}
use Rattle.create.specs.Create.{RowCreated}
use Rattle.create.specs.PackedCreate.{MadeIn, PackedMade, PackedCreateCarried}
use Rattle.create.proofs.NewGroups.{refused_bad, refused_full, refused_none, all_long}
use Rattle.create.proofs.CreateEnding.{but_for, is_good, has_room, room_as, stops, goes_on, stops_alike, times_all, carried_at, carried_each}
use Rattle.create.proofs.PackedGroups.{row_sid_lem}

-- ---- the groups that a body gives: packed SIDs, each of them valid

unfoldable sound_given : Given → Bool
sound_given (by_number n) = false
sound_given (by_sid x) = valid_sid x

unfoldable sound_group : GivenGroup → Bool
sound_group g = sound_given g.sid

group_sound : (bytes : List ℕ) → all (is_below 256) bytes ≡ true → (g : GivenGroup) (later : List ℕ) → group packed_sid bytes ≡ got g later
    → (sound_group g ≡ true) × (all (is_below 256) later ≡ true)
unfolding group packed_sid ◌>>=◌ follow give u32 sound_group sound_given Got is_byte is_below
group_sound bytes b g later e = first (read_sid bytes) refl e
  where
    second : (z : Sid) → valid_sid z ≡ true → (x : Read ℕ) → Got (λ n. n ≤ max32) x → follow x (λ a. give (record { sid = by_sid z; attributes = a })) ≡ got g later
        → (sound_group g ≡ true) × (all (is_below 256) later ≡ true)
    second z v (got a l) w t =
        let q : record { sid = by_sid z; attributes = a } ≡ g = cc in
        let m : l ≡ later = cc in
        (ap sound_group (sym q) ∙ v, ap (all (is_below 256)) (sym m) ∙ w.1)
    second z v bad w t = cc

    first : (x : Read Sid) → read_sid bytes ≡ x → follow (follow x (λ z. give (by_sid z))) (λ i. ◌>>=◌ u32 (λ a. give (record { sid = i; attributes = a }))) ≡ got g later
        → (sound_group g ≡ true) × (all (is_below 256) later ≡ true)
    first (got z rest) d t =
        let r = read_form bytes b z rest d in
        second z r.1 (read_number max32 rest)
        (number max32 rest (mem_all is_byte rest (λ n m. all_mem is_byte bytes b (subst (Mem n) r.0 (mem_right (packed z) m))))) t
    first bad d t = cc

-- ---- numbers are equal just where the SIDs are: a pair is judged the same by either

pair_by : (x y m n a : ℕ) → eqb x m ≡ eqb y n → valid_pair m (record { sid = x; attributes = a }) ≡ valid_pair n (record { sid = y; attributes = a })
unfolding valid_pair is_fixed is_mandatory is_logon is_enabled_by_default is_deny_only
pair_by x y m n a e =
    ap (λ (b : Bool). within a givable && both_or_neither (has 30 a) (has 31 a) && implies (has 0 a || (has 30 a && has 31 a) || b) (has 1 a) && implies (has 4 a) (not (has 1 a))) e

module _ (t : List Sid) (u : Sid) (vu : valid_sid u ≡ true) (iu : is_in u t ≡ true) where
  judged_as : (v : Sid) (a : ℕ) → valid_sid v ≡ true → is_in v t ≡ true → judged_row (sid_row u) (sid_row v) a ≡ valid_pair (number_of t u) (record { sid = number_of t v; attributes = a })
  unfolding judged_row
  judged_as v a vv iv = pair_by (if same (sid_row u) (sid_row v) then 0 else 1) (number_of t v) 0 (number_of t u) a (by (same (sid_row u) (sid_row v)) refl)
    where
      by : (b : Bool) → same (sid_row u) (sid_row v) ≡ b → eqb (if b then 0 else 1) 0 ≡ eqb (number_of t v) (number_of t u)
      by true e = sym (eq-eqb (number_of t v) (number_of t u) (ap (number_of t) (sym (row_one u v vu vv (same_eq (sid_row u) (sid_row v) e)))))
      by false e =
          sym (ne_eqb (number_of t v) (number_of t u) (λ q. not_both (ap (λ (y : Sid). same (sid_row u) (sid_row y)) (number_one v u t iv iu q) ∙ same_refl (sid_row u)) e))

  given_as : (y : Given) (a : ℕ) → sound_given y ≡ true → ((x : Sid) → y ≡ by_sid x → is_in x t ≡ true)
      → judged_given (sid_row u) y a ≡ valid_pair (number_of t u) (record { sid = number_in t y; attributes = a })
  unfolding sound_given judged_given number_in
  given_as (by_number n) a h i = absurd (not_both h refl)
  given_as (by_sid x) a h i = judged_as x a h (i x refl)

  all_judged : (gs : List GivenGroup) → all sound_group gs ≡ true → ((x : Sid) → Mem (by_sid x) (map group_sid gs) → is_in x t ≡ true)
      → all (judged_group (sid_row u)) gs ≡ all (valid_pair (number_of t u)) (map (group_in t) gs)
  unfolding all sound_group judged_group group_sid group_in
  all_judged [] h i = refl
  all_judged (g ∷ gs) h i =
      ap₂ (λ (x y : Bool). x && y) (given_as g.sid g.attributes (and_l (sound_given g.sid) (all sound_group gs) h) (λ x e. i x (here (sym e))))
      (all_judged gs (and_r (sound_given g.sid) (all sound_group gs) h) (λ x m. i x (there m)))

-- and is in the table
module _ (t : List Sid) (two : 2 ≤ length t) where
  listed_given : (y : Given) → sound_given y ≡ true → ((x : Sid) → y ≡ by_sid x → is_in x t ≡ true) → is_number t (number_in t y) ≡ true
  unfolding sound_given number_in
  listed_given (by_number n) h i = absurd (not_both h refl)
  listed_given (by_sid x) h i = number_is x t two (i x refl)

  all_listed : (gs : List GivenGroup) → all sound_group gs ≡ true → ((x : Sid) → Mem (by_sid x) (map group_sid gs) → is_in x t ≡ true)
      → all (is_number t) (map sid_of (map (group_in t) gs)) ≡ true
  unfolding all sound_group group_sid group_in sid_of
  all_listed [] h i = refl
  all_listed (g ∷ gs) h i =
      and_i (listed_given g.sid (and_l (sound_given g.sid) (all sound_group gs) h) (λ x e. i x (here (sym e))))
      (all_listed gs (and_r (sound_given g.sid) (all sound_group gs) h) (λ x m. i x (there m)))

-- ---- the token

sorted : (x l p q : Bool) → q ≡ true → (x && l && p && q) ≡ (x && (l && p))
sorted false l p q e = refl
sorted true false p q e = refl
sorted true true false q e = refl
sorted true true true q e = e

abbrev user_of : CreateFields ℕ → List ℕ → Sid
user_of f s = sid_in (drop f.user s)

-- the table with the user's SID, and then with those of the groups
abbrev with_user : CreateFields ℕ → List ℕ → List Sid → List Sid
with_user f s t = entered_by (by_sid (user_of f s)) t

abbrev with_all : CreateFields ℕ → List ℕ → List GivenGroup → List Sid → List Sid
with_all f s gs t = entered_all (map group_sid gs) (with_user f s t)

abbrev good_in : CreateFields ℕ → List ℕ → List GivenGroup → List Sid → Bool
good_in f s gs t = valid_create t (number_of t (user_of f s)) f.integrity f.present f.by_default (map (group_in t) gs)

-- a is the test of the fields besides the groups
module _ (n : ℕ) (f : CreateFields ℕ) (s : List ℕ) {a : Bool} (ea : a ≡ (valid_integrity f.integrity && within f.by_default f.present && within f.present existing)) where
  pub fields_refused : {before ws : List ℕ} → length ws ≡ token_words → not a ≡ true → PackedMade n f s before ws before (Err refusal.BadField)
  unfolding valid_create
  fields_refused l t = record { long = l; made = λ gs later q u c w. record { refusal = refused_bad _ _ (rw (sym ea, not-true a t)); held = tt; row = tt } }

  module _ (t : not a ≡ false) {x before middle : List ℕ} (k : RowAt s f.user x) where
    module _ {first : Option ℕ} (m : NumberEntered (row_sid x) before middle first) {ws after : List ℕ} {g : Result (Unit {0}) Refusal} (r : PackedRead x s f.at f.count middle ws after g)
        (gs : List GivenGroup) (later : List ℕ) (q : times f.count (group packed_sid) (drop f.at s) ≡ got gs later) (u : List Sid) (c : Capped u before) where
      its : NumberEntered (user_of f s) before middle first
      its = subst (λ (y : Sid). NumberEntered y before middle first) (row_sid_lem k) m

      sound : all sound_group gs ≡ true
      sound = times_all (group packed_sid) sound_group (λ l. all (is_below 256) l ≡ true) group_sound f.count (drop f.at s) (all_drop (is_below 256) f.at s k.bytes) gs later q

      known : is_in (user_of f s) (with_user f s u) ≡ true
      unfolding entered_by
      known = entered_in (user_of f s) u

      inside : (y : Sid) → Mem (by_sid y) (map group_sid gs) → is_in y (with_all f s gs u) ≡ true
      inside y z = all_entered_in (map group_sid gs) y (with_user f s u) z

      two : 2 ≤ length (with_all f s gs u)
      two = omega (arith, sids_two (take max_sids u) c.sound, length-take max_sids u, entered_by_long (by_sid (user_of f s)) u, entered_all_long (map group_sid gs) (with_user f s u))

      judged : all (judged_group x) gs ≡ all (valid_pair (number_of (with_all f s gs u) (user_of f s))) (map (group_in (with_all f s gs u)) gs)
      judged =
          ap (λ (l : List ℕ). all (judged_group l) gs) k.is
          ∙ all_judged (with_all f s gs u) (user_of f s) k.sound (stays_in (map group_sid gs) (user_of f s) (with_user f s u) known) gs sound inside

      numbers : all (is_number (with_all f s gs u)) (number_of (with_all f s gs u) (user_of f s) ∷ map sid_of (map (group_in (with_all f s gs u)) gs)) ≡ true
      unfolding all
      numbers =
          and_i (number_is (user_of f s) (with_all f s gs u) two (stays_in (map group_sid gs) (user_of f s) (with_user f s u) known))
          (all_listed (with_all f s gs u) two gs sound inside)

      -- what is left to judge are the groups
      good_is : good_in f s gs (with_all f s gs u) ≡ (leb (length gs) max_groups && all (judged_group x) gs)
      unfolding valid_create
      good_is =
          sorted (valid_integrity f.integrity && within f.by_default f.present && within f.present existing) (leb (length (map (group_in (with_all f s gs u)) gs)) max_groups)
          (all (valid_pair (number_of (with_all f s gs u) (user_of f s))) (map (group_in (with_all f s gs u)) gs)) _ numbers
          ∙ ap₂ ◌&&◌ (sym ea ∙ not-false a t) (ap₂ (λ (j : ℕ) (b : Bool). leb j max_groups && b) (length-map gs (group_in (with_all f s gs u))) (sym judged))

      refusal_is : refused g ≡ new_refusal (good_in f s gs (with_all f s gs u)) r.room
      refusal_is = r.refusal gs later q ∙ ap (λ (b : Bool). new_refusal b r.room) (sym good_is)

      groups : good_in f s gs (with_all f s gs u) ≡ true → GroupsEntered gs (with_user f s u) r.room ws after
      groups h = r.taken gs later q (sym good_is ∙ h) (with_user f s u) (its.held u c)

      fits_all : fits_table u ≡ true → good_in f s gs (with_all f s gs u) ≡ true → fits_table (with_all f s gs u) ≡ (is_some first && r.room)
      fits_all w h = (groups h).fits ∙ ap (λ (b : Bool). b && r.room) (its.fits u c ∙ ap (λ (b : Bool). b && is_some first) w)

      number_as : IfSome first (λ j. j ≡ number_of (with_user f s u) (user_of f s))
      number_as = its.number u c

      row_is : good_in f s gs (with_all f s gs u) ≡ true → fits_table (with_all f s gs u) ≡ true
          → {ws' : List ℕ} (j : ℕ) → j ≡ number_of (with_user f s u) (user_of f s) → Headed n (primary_of n j f.session f.integrity) (granted f.present f.by_default) f.count ws ws'
          → ws' ≡ token_row (new_token n (primary_of n (number_of (with_all f s gs u) (user_of f s)) f.session f.integrity) (granted f.present f.by_default) (map entered (map (group_in (with_all f s gs u)) gs)))
      row_is h fit j e w =
          w.row (map entered (map (group_in (with_all f s gs u)) gs)) ((groups h).row fit)
          (length-map (map (group_in (with_all f s gs u)) gs) entered ∙ length-map gs (group_in (with_all f s gs u)) ∙ all_long (group packed_sid) f.count (drop f.at s) q)
          ∙ ap (λ (i : ℕ). token_row (new_token n (primary_of n i f.session f.integrity) (granted f.present f.by_default) (map entered (map (group_in (with_all f s gs u)) gs))))
          (e ∙ sym (number_kept (map group_sid gs) (user_of f s) (with_user f s u) known))

    pub groups_refused : {first : Option ℕ} → NumberEntered (row_sid x) before middle first → {ws after : List ℕ} {e : Refusal} → PackedRead x s f.at f.count middle ws after (Err e)
        → PackedMade n f s before ws after (Err e)
    unfolding entered_all
    groups_refused {first} m r = record {
      long = r.long;
      made = λ gs later q u c w. record {
        refusal =
            but_for _ r.room (is_some first) (refusal_is m r gs later q u c)
            ∙ room_as (good_in f s gs (with_all f s gs u)) (λ h. sym (fits_all m r gs later q u c w h));
        held = tt;
        row = tt;
      };
    }

    pub user_without_room : NumberEntered (row_sid x) before middle None → {ws after : List ℕ} {o : Unit {0}} → PackedRead x s f.at f.count middle ws after (Ok o)
        → PackedMade n f s before ws after (Err refusal.TableFull)
    unfolding entered_all
    user_without_room m r = record {
      long = r.long;
      made = λ gs later q u c w.
          let h = is_good _ r.room (refusal_is m r gs later q u c) in
          record { refusal = refused_full _ _ h (fits_all m r gs later q u c w h); held = tt; row = tt };
    }

    pub packed_made : {j : ℕ} → NumberEntered (row_sid x) before middle (Some j) → {ws after : List ℕ} {o : Unit {0}} → PackedRead x s f.at f.count middle ws after (Ok o)
        → {ws' : List ℕ} → Headed n (primary_of n j f.session f.integrity) (granted f.present f.by_default) f.count ws ws' → (v : Unit {0}) → PackedMade n f s before ws' after (Ok v)
    unfolding entered_all
    packed_made {j} m r h v = record {
      long = h.long r.long;
      made = λ gs later q u c w.
          let y = is_good _ r.room (refusal_is m r gs later q u c) in
          let fit = fits_all m r gs later q u c w y ∙ has_room _ r.room (refusal_is m r gs later q u c) in
          record { refusal = refused_none _ _ y fit; held = (groups m r gs later q u c y).held; row = row_is m r gs later q u c y fit j (number_as m r gs later q u c) h };
    }

-- ---- SIDs that enter change nothing else

module _ (xs : List Given) (σ : State) where
  held_still : (s n : ℕ) → held (entering xs σ) s n ≡ held σ s n
  unfolding entering with_sids held caller token_of caller_number station_at
  held_still s n = refl

  can_still : can_issue (entering xs σ) ≡ can_issue σ
  unfolding entering with_sids can_issue can_add_handle can_add_token
  can_still = refl

  -- they may as well enter after the token is issued
  issued_then : (s n mask : ℕ) (u : rules.Token) → carried_out σ (issued s mask u (used n s (entering xs σ)))
      ≡ record { state = with_sids (entered_all xs σ.sids) (carried_out σ (issued s mask u (used n s σ))).state; answer = (carried_out σ (issued s mask u (used n s σ))).answer }
  unfolding carried_out issued entering with_sids used change_token put_token with_tokens token_of caller_number station_at add_token add_handle with_handles
  issued_then s n mask u = refl

sids_parts : {σ : State} {ts ds : List ℕ} {hs : List Handle} {xs cs cs' : List ℕ} (t : List Sid) → SidsSet xs cs cs' → xs ≡ write_sids t → PartsIn σ ts ds hs cs → PartsIn (with_sids t σ) ts ds hs cs'
unfolding with_sids
sids_parts {σ} t k e p = record {
  handles = record { records = p.handles.records };
  control = k.control σ t e p.control;
  tokens = record { words = p.tokens.words; bytes = p.tokens.bytes };
}

-- ---- the request

-- the SIDs given, the user's first, and the table with them
abbrev given : CreateFields ℕ → List ℕ → List GivenGroup → List Given
given f body gs = by_sid (user_of f body) ∷ map group_sid gs

abbrev table_of : CreateFields ℕ → List ℕ → List GivenGroup → State → List Sid
table_of f body gs σ = entered_all (given f body gs) σ.sids

abbrev new_one : CreateFields ℕ → List ℕ → List GivenGroup → State → ℕ → rules.Token
new_one f body gs σ j =
    new_token j (primary_of j (number_of (table_of f body gs σ) (user_of f body)) f.session f.integrity) (granted f.present f.by_default) (map entered (map (group_in (table_of f body gs σ)) gs))

abbrev good : CreateFields ℕ → List ℕ → List GivenGroup → State → Bool
good f body gs σ = good_in f body gs (table_of f body gs σ)

abbrev issuing : ℕ → CreateFields ℕ → List ℕ → List GivenGroup → State → ℕ → Decision
issuing s f body gs σ j = issued s all_rights (new_one f body gs σ j) (used create_token s (entering (given f body gs) σ))

module _ (s : ℕ) (f : CreateFields ℕ) (body : List ℕ) {hs : List Handle} {cs ts ds : List ℕ} {b : Bool} (h : Held create_token s ts cs b) where
  is_held : (gs : List GivenGroup) {c : Bool} → not b ≡ c → (σ : State) → valid σ ≡ true → PartsIn σ ts ds hs cs → not (held (entering (given f body gs) σ) s create_token) ≡ c
  is_held gs t σ v p = ap not (held_still (given f body gs) σ s create_token ∙ sym (h.held σ v p.tokens p.control)) ∙ t

  pub packed_not_held : not b ≡ true → PackedCreateCarried s f body ts ds hs cs ts ds cs (Err refusal.PrivilegeNotHeld)
  unfolding create create_numbered
  packed_not_held t = record {
    carried = λ gs later q u. refuses refusal.PrivilegeNotHeld λ σ v p. fails (held (entering (given f body gs) σ) s create_token) σ privilege_not_held _ (is_held gs t σ v p);
  }

  -- never so
  pub packed_broken : {table : List ℕ} {y z : Bool} → SidsCopied cs table → y ≡ is_packed (drop f.user body) → z ≡ sid_words_valid table → not (y && z) ≡ true
      → PackedCreateCarried s f body ts ds hs cs ts ds cs (Err refusal.BadField)
  packed_broken c ey ez t = record {
    carried = λ gs later q u. refuses refusal.BadField λ σ v p.
        absurd (not_both t (ap₂ (λ (i j : Bool). not (i && j)) (ey ∙ u) (ez ∙ ap sid_words_valid (c.copied σ p.control) ∙ written_valid σ.sids (valid_facts σ v).loose.sids)));
  }

  module _ (t : not b ≡ false) where
    -- past 4
    decided : (gs : List GivenGroup) (σ : State) → valid σ ≡ true → PartsIn σ ts ds hs cs
        → carried_out σ (create σ s (by_sid (user_of f body)) f.session f.integrity f.present f.by_default gs)
        ≡ carried_out σ (need good f body gs σ else bad_field then
        need can_issue (entering (given f body gs) σ) && fits_table (table_of f body gs σ) else table_full then
        issuing s f body gs σ σ.tokens.next)
    unfolding create create_numbered entering with_sids number_in
    decided gs σ v p = holds (held (entering (given f body gs) σ) s create_token) σ privilege_not_held _ (is_held gs t σ v p)

    module _ {table : List ℕ} (c : SidsCopied cs table) {n : ℕ} {ws after : List ℕ} where
      made_there : {r : Result (Unit {0}) Refusal} → PackedMade n f body table ws after r
          → (gs : List GivenGroup) (later : List ℕ) → times f.count (group packed_sid) (drop f.at body) ≡ got gs later → (σ : State) → valid σ ≡ true → PartsIn σ ts ds hs cs
          → MadeIn n f (user_of f body) gs (table_of f body gs σ) ws after r
      made_there g gs later q σ v p =
          let whole : sids_valid σ.sids ≡ true = (valid_facts σ v).loose.sids in
          let all_of : take max_sids σ.sids ≡ σ.sids = take_all max_sids σ.sids (sids_few σ.sids whole) in
          g.made gs later q σ.sids (record { words = c.copied σ p.control ∙ ap write_sids (sym all_of); sound = ap sids_valid all_of ∙ whole }) (sids_fit σ.sids whole)

      pub packed_refused : {e : Refusal} → PackedMade n f body table ws after (Err e) → PackedCreateCarried s f body ts ds hs cs ts ds cs (Err e)
      packed_refused {e} g = record {
        carried = λ gs later q u. refuses e λ σ v p.
            decided gs σ v p
            ∙ stops σ (good f body gs σ) (can_issue (entering (given f body gs) σ) && fits_table (table_of f body gs σ)) (issuing s f body gs σ σ.tokens.next)
            (but_for (good f body gs σ) (fits_table (table_of f body gs σ)) (can_issue (entering (given f body gs) σ)) (made_there g gs later q σ v p).refusal);
      }

      module _ {o : Unit {0}} (g : PackedMade n f body table ws after (Ok o)) where
        module _ (gs : List GivenGroup) (later : List ℕ) (q : times f.count (group packed_sid) (drop f.at body) ≡ got gs later) (σ : State) (v : valid σ ≡ true) (p : PartsIn σ ts ds hs cs) where
          made : MadeIn n f (user_of f body) gs (table_of f body gs σ) ws after (Ok o)
          made = made_there g gs later q σ v p

          fit : fits_table (table_of f body gs σ) ≡ true
          fit = has_room (good f body gs σ) (fits_table (table_of f body gs σ)) made.refusal

          -- past 5: room is left but for the slots
          room_left : carried_out σ (create σ s (by_sid (user_of f body)) f.session f.integrity f.present f.by_default gs)
              ≡ carried_out σ (need can_issue σ else table_full then issuing s f body gs σ σ.tokens.next)
          room_left =
              decided gs σ v p
              ∙ goes_on σ (good f body gs σ) (can_issue (entering (given f body gs) σ) && fits_table (table_of f body gs σ)) (issuing s f body gs σ σ.tokens.next) (is_good (good f body gs σ) (fits_table (table_of f body gs σ)) made.refusal)
              ∙ ap (λ (b : Bool). carried_out σ (need b else table_full then issuing s f body gs σ σ.tokens.next))
              (ap₂ ◌&&◌ (can_still (given f body gs) σ) fit ∙ and-true (can_issue σ))

          written_after : after ≡ write_sids (table_of f body gs σ)
          unfolding fits_table
          written_after = made.held.words ∙ ap write_sids (take_all max_sids (table_of f body gs σ) (leb-true (length (table_of f body gs σ)) max_sids fit))

        module _ {cs₁ ts' ds' : List ℕ} where
          pub packed_no_room : {e : Refusal} → RowCreated s ws ts ds hs cs ts' ds' cs₁ (Err e) → PackedCreateCarried s f body ts ds hs cs ts' ds' cs₁ (Err e)
          unfolding new_token no_defaults
          packed_no_room k = record {
            carried = λ gs later q u. carried_each (λ σ. carried_out σ (need can_issue σ else table_full then issued s all_rights (new_one f body gs σ n) (used create_token s σ))) (λ σ v p.
                room_left gs later q σ v p
                ∙ stops_alike σ (can_issue σ) (issuing s f body gs σ σ.tokens.next) (issued s all_rights (new_one f body gs σ n) (used create_token s σ)) (k.refusal σ v p))
                (λ σ v p. carried_at (k.carried (new_one f body gs σ n) (made gs later q σ v p).row refl) σ v p);
          }

          pub packed_creates : NextGiven token_counter cs n → {r : Outcome} → RowCreated s ws ts ds hs cs ts' ds' cs₁ (Ok r) → {cs' : List ℕ} → SidsSet after cs₁ cs'
              → PackedCreateCarried s f body ts ds hs cs ts' ds' cs' (Ok r)
          unfolding new_token no_defaults
          packed_creates next k set = record {
            carried = λ gs later q u. carried_each (λ σ. after_it gs σ) (λ σ v p.
                room_left gs later q σ v p
                ∙ holds (can_issue σ) σ table_full _ (ap not (can_issue_is σ v p))
                ∙ ap (λ (j : ℕ). carried_out σ (issuing s f body gs σ j)) (sym (next.next σ p.control))
                ∙ issued_then (given f body gs) σ s create_token all_rights (new_one f body gs σ n))
                (λ σ v p.
                let x = carried_at (k.carried (new_one f body gs σ n) (made gs later q σ v p).row refl) σ v p in
                let y = holds (can_issue σ) σ table_full (issued s all_rights (new_one f body gs σ n) (used create_token s σ)) (ap not (can_issue_is σ v p)) in
                record {
                  parts = sids_parts (table_of f body gs σ) set (written_after gs later q σ v p) (rw y at x.parts);
                  answer = rw y at x.answer;
                  fit = x.fit;
                });
          }
            where
              can_issue_is : (σ : State) → valid σ ≡ true → PartsIn σ ts ds hs cs → can_issue σ ≡ true
              can_issue_is σ v p = has_room true (can_issue σ) (k.refusal σ v p)

              after_it : List GivenGroup → State → Served
              after_it gs σ = record {
                state = with_sids (table_of f body gs σ) (carried_out σ (issued s all_rights (new_one f body gs σ n) (used create_token s σ))).state;
                answer = (carried_out σ (issued s all_rights (new_one f body gs σ n) (used create_token s σ))).answer;
              }
