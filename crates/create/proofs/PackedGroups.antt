-- Request 14's groups: their SIDs enter, one more and all of them. Assumes nothing.
use Prim.Native.Nat.{ℕ, suc, ◌+◌, ◌^◌, ◌≤◌, ◌<◌}
use native.Mathlib.Omega.{arith}
use mathlib.Core.Path.{◌≡◌, refl, sym, ap, ap₂, subst, ◌∙◌}
use mathlib.Core.Bool.{Bool, true, false, ◌&&◌, and_assoc, and-false, and-true}
use mathlib.Core.List.{List, [], ◌∷◌, ◌++◌, map, map-append}
use lib.Dec.{leb, eqb}
use lib.ListN.{length, take, drop, get_or, set, replicate, length-set}
use lib.Seq.{take_all}
use borrow.Author.Tests.{lt-ltb}
use lib.Pointwise.{pointwise}
use Rattle.std.specs.Prelude.{Option, None, Some, is_some, Ok, Err, if◌then◌else◌}
use Rattle.rules.specs.Basic.{all, is_below, same}
use Rattle.rules.specs.Number.{max32}
use Rattle.rules.specs.Growth.{Mem, here, there}
use Rattle.rules.specs.Group as rules
use Rattle.rules.specs.Token.{max_groups}
use Rattle.rules.specs.Memory.{head_words, token_words, pack}
use Rattle.rules.specs.Sid.{Sid, is_packed, sid_size, sid_in}
use Rattle.rules.specs.SidTable.{max_sids, is_number, number_of, entered, fits_table, sids_valid}
use Rattle.rules.specs.SidRows.{sid_row, row_sid, sids_at, write_sids, sid_words, sid_words_valid}
use Rattle.rules.specs.Given.{Given, by_number, by_sid, GivenGroup, number_in, group_sid, group_in, entered_by, entered_all}
use Rattle.rules.specs.Number.{got}
use Rattle.rules.specs.Request.{times, group, packed_sid}
use Rattle.rules.specs.Create as Create
use Rattle.rules.specs.Create.{valid_pair}
use Rattle.rules.proofs.Logic.{and_i, not_both}
use Rattle.rules.proofs.Sids.{all_drop, sid_valid, row_back}
use Rattle.rules.proofs.SidNumbers.{sids_fit, sids_few, sids_two, number_is, number_below, entered_in, entered_long, entered_by_long, entered_by_kept, fits_less, all_entered_in}
use Rattle.rules.proofs.SidWords.{written_valid, words_size, words_written, words_valid}
use Rattle.token.specs.NewRow.{headless}
use Rattle.token.proofs.NewRow.{no_groups}
use Rattle.number.specs.declared.Number.{Number}
use Rattle.number.specs.Meaning.{NumberAt}
use Rattle.answer.specs.declared.refusal.Refusal.TheVariants as refusal
use Rattle.sid.specs.Reading.{packed_size}
use Rattle.sid.specs.Finding.{Rowed}
use Rattle.sid.proofs.Entered.{rowed}
use Rattle.body.proofs.Sids.{no_sid_lem, sid_there, sid_packed, sid_inside, group_none, group_half, group_whole}
use Rattle.given.specs.Given.{Capped, GivenEntered}
use Rattle.create.specs.PackedGroups.{judged_row, judged_given, judged_group, RowAt, packed_group, AttributesAt, NumberEntered, GroupsEntered, PackedRead}
use Rattle.create.proofs.NewGroups.{refused_bad, refused_full, refused_none, Kept, none_kept, kept_end, kept_lost, kept_bad, kept_one, too_many, judged_as, all_more, row_more}

-- ---- what stands at a place

bytes_below : (s : List ℕ) → ((i : ℕ) → get_or s i 0 < 2 ^ 8) → all (is_below 256) s ≡ true
unfolding all is_below
bytes_below [] h = refl
bytes_below (b ∷ s) h = and_i (lt-ltb b 256 (h 0)) (bytes_below s (λ i. h (suc i)))

pub row_loaded : (s : List ℕ) (at : ℕ) {r : List ℕ} → ((i : ℕ) → get_or s i 0 < 2 ^ 8) → is_packed (drop at s) ≡ true → r ≡ sid_row (sid_in (drop at s)) → RowAt s at r
row_loaded s at h p e =
    let b = bytes_below s h in
    record { is = e; sound = sid_valid (drop at s) p (all_drop (is_below 256) at s b); bytes = b }

pub rowed_at : {s : List ℕ} {at : ℕ} {r : List ℕ} → RowAt s at r → Rowed r
rowed_at {s} {at} k = subst Rowed (sym k.is) (rowed (sid_in (drop at s)) k.sound)

pub row_sid_lem : {s : List ℕ} {at : ℕ} {r : List ℕ} → RowAt s at r → row_sid r ≡ sid_in (drop at s)
row_sid_lem {s} {at} k = ap row_sid k.is ∙ row_back (sid_in (drop at s)) k.sound

pub is_packed_lem : (bytes : List ℕ) {r : Option ℕ} → r ≡ packed_size bytes → is_some r ≡ is_packed bytes
unfolding packed_size
is_packed_lem bytes e = ap is_some e ∙ by (is_packed bytes)
  where
    by : (b : Bool) → is_some (if b then Some (sid_size bytes) else None) ≡ b
    by true = refl
    by false = refl

module _ (s : List ℕ) (at : ℕ) where
  pub no_size : None ≡ packed_size (drop at s) → AttributesAt s at None
  no_size e = record { means = group_none packed_sid (drop at s) (no_sid_lem s at e) }

  module _ (n : ℕ) (e : Some n ≡ packed_size (drop at s)) where
    pub size_room : length s < 2 ^ 64 → at + n < 2 ^ 64
    size_room l = omega (arith, sid_inside s at n e)

    pub attributes_there : {r : Option Number} → NumberAt s (at + n) max32 r → AttributesAt s at r
    attributes_there {r = None} f = record { means = group_half packed_sid (drop at s) (by_sid (sid_in (drop at s))) (drop (at + n) s) (sid_there s at n e) f.means }
    attributes_there {r = Some a} f = record {
      means = (
        group_whole packed_sid (drop at s) (by_sid (sid_in (drop at s))) (drop (at + n) s) (sid_there s at n e) a.value (drop a.next s) f.means,
        sid_packed s at n e,
        f.bounds.2,
      );
    }

-- ---- the test of a pair

equal_same : (xs ys : List ℕ) → pointwise eqb xs ys ≡ same xs ys
unfolding same
equal_same [] [] = refl
equal_same [] (y ∷ ys) = refl
equal_same (x ∷ xs) [] = refl
equal_same (x ∷ xs) (y ∷ ys) = ap (λ (b : Bool). eqb x y && b) (equal_same xs ys)

pub judged_by : (user x : List ℕ) (a n : ℕ) {e r : Bool} → e ≡ pointwise eqb user x → n ≡ (if e then 0 else 1) → r ≡ valid_pair 0 (record { sid = n; attributes = a }) → r ≡ judged_row user x a
unfolding judged_row
judged_by user x a n h k l = l ∙ ap (λ (j : ℕ). valid_pair 0 (record { sid = j; attributes = a })) (k ∙ ap (λ (b : Bool). if b then 0 else 1) (h ∙ equal_same user x))

-- ---- a SID enters

pub capped_own : {ws : List ℕ} → sid_words_valid ws ≡ true → Capped (sids_at ws) ws
capped_own {ws} v =
    let all_of : take max_sids (sids_at ws) ≡ sids_at ws = take_all max_sids (sids_at ws) (sids_few (sids_at ws) (words_valid ws v)) in
    record { words = sym (ap write_sids all_of ∙ words_written ws v); sound = ap sids_valid all_of ∙ words_valid ws v }

capped_valid : {t : List Sid} {ws : List ℕ} → Capped t ws → sid_words_valid ws ≡ true
capped_valid {t} c = ap sid_words_valid c.words ∙ written_valid (take max_sids t) c.sound

module _ {x : Sid} {ws ws' : List ℕ} (v : sid_words_valid ws ≡ true) where
  pub number_narrow : (n : ℕ) → GivenEntered x ws ws' (Some n) → n < 2 ^ 32
  number_narrow n g =
      let t = sids_at ws in
      let w = words_valid ws v in
      let c = capped_own v in
      let f : fits_table (entered x t) ≡ true = g.fits t c ∙ and_i (sids_fit t w) refl in
      let k : is_number (entered x t) (number_of (entered x t) x) ≡ true = number_is x (entered x t) (omega (arith, sids_two t w, entered_long x t)) (entered_in x t) in
      omega (arith, number_below (entered x t) (number_of (entered x t) x) f k, g.number t c)

  pub number_entered : {r : Option ℕ} → GivenEntered x ws ws' r → NumberEntered x ws ws' r
  unfolding entered_by
  number_entered g = record { sound = capped_valid (g.held (sids_at ws) (capped_own v)); held = g.held; fits = g.fits; number = g.number }

-- ---- one more

entered_last : (xs : List Given) (x : Given) (t : List Sid) → entered_all (xs ++ (x ∷ [])) t ≡ entered_by x (entered_all xs t)
unfolding entered_all
entered_last [] x t = refl
entered_last (y ∷ xs) x t = entered_last xs x (entered_by y t)

sids_last : (gs : List GivenGroup) (x : Sid) (a : ℕ) (t : List Sid)
    → entered_all (map group_sid (gs ++ (record { sid = by_sid x; attributes = a } ∷ []))) t ≡ entered_by (by_sid x) (entered_all (map group_sid gs) t)
unfolding group_sid
sids_last gs x a t = ap (λ (l : List Given). entered_all l t) (map-append group_sid gs (record { sid = by_sid x; attributes = a } ∷ [])) ∙ entered_last (map group_sid gs) (by_sid x) t

-- numbers once given stand
numbers_stay : (t t' : List Sid) (gs : List GivenGroup) → ((x : Sid) → Mem (by_sid x) (map group_sid gs) → number_of t' x ≡ number_of t x) → map (group_in t) gs ≡ map (group_in t') gs
unfolding group_sid group_in number_in
numbers_stay t t' [] h = refl
numbers_stay t t' (g ∷ gs) h =
    ap₂ (λ (n : ℕ) (l : List rules.Group). record { sid = n; attributes = g.attributes } ∷ l) (one g.sid (λ x e. h x (here (sym e)))) (numbers_stay t t' gs (λ x m. h x (there m)))
  where
    one : (y : Given) → ((x : Sid) → y ≡ by_sid x → number_of t' x ≡ number_of t x) → number_in t y ≡ number_in t' y
    one (by_number n) k = refl
    one (by_sid x) k = sym (k x refl)

-- ---- the loop's state

module _ (user s : List ℕ) (at count : ℕ) (before : List ℕ) where
  pub record Loading (ws sids : List ℕ) (n : ℕ) (room : Bool) (from : ℕ) : Type 0 where
    pub groups : List GivenGroup
    pub long : length ws ≡ token_words
    pub kept : Kept (group packed_sid) s at count groups n from
    pub good : all (judged_group user) groups ≡ true
    pub sound : sid_words_valid sids ≡ true
    pub wide : length sids ≡ sid_words
    pub taken : (t : List Sid) → Capped t before → GroupsEntered groups t room ws sids

  pub none_loaded : {ws : List ℕ} → ws ≡ replicate token_words 0 → sid_words_valid before ≡ true → Loading ws before 0 true at
  unfolding entered_all all
  none_loaded e v = record {
    groups = [];
    long = ap length e;
    kept = none_kept (group packed_sid) s at count;
    good = refl;
    sound = v;
    wide = words_size before v;
    taken = λ t c. record { held = c; fits = sym (and-true (fits_table t)); row = λ f. e ∙ no_groups };
  }

  -- a bad pair: what has entered does not matter
  refused_so : {ws sids : List ℕ} → length ws ≡ token_words
      → ((gs : List GivenGroup) (later : List ℕ) → times count (group packed_sid) (drop at s) ≡ got gs later → (leb (length gs) max_groups && all (judged_group user) gs) ≡ false)
      → PackedRead user s at count before ws sids (Err refusal.BadField)
  refused_so l e = record {
    long = l;
    room = true;
    refusal = λ gs later t. refused_bad _ true (e gs later t);
    taken = λ gs later t g. absurd (not_both g (e gs later t));
  }

  pub too_many_packed : {ws : List ℕ} → ws ≡ replicate token_words 0 → max_groups < count → (sids : List ℕ) → PackedRead user s at count before ws sids (Err refusal.BadField)
  too_many_packed e h sids = refused_so (ap length e) (λ gs later t. too_many (group packed_sid) s at count (judged_group user) gs later t h)

  module _ (few : count ≤ max_groups) {ws sids : List ℕ} {n : ℕ} {room : Bool} {from : ℕ} (i : Loading ws sids n room from) where
    module _ (h : count ≤ n) where
      all_of : (gs : List GivenGroup) (later : List ℕ) → times count (group packed_sid) (drop at s) ≡ got gs later → gs ≡ i.groups
      all_of = kept_end (group packed_sid) s at count i.kept h

      good_all : (gs : List GivenGroup) (later : List ℕ) → times count (group packed_sid) (drop at s) ≡ got gs later → (leb (length gs) max_groups && all (judged_group user) gs) ≡ true
      good_all gs later t = judged_as (group packed_sid) s at count (judged_group user) gs later t few (ap (all (judged_group user)) (all_of gs later t) ∙ i.good)

      all_entered : (gs : List GivenGroup) (later : List ℕ) → times count (group packed_sid) (drop at s) ≡ got gs later → (t : List Sid) → Capped t before → GroupsEntered gs t room ws sids
      all_entered gs later t u c = subst (λ (l : List GivenGroup). GroupsEntered l u room ws sids) (sym (all_of gs later t)) (i.taken u c)

      pub all_loaded : room ≡ true → (u : Unit {0}) → PackedRead user s at count before ws sids (Ok u)
      all_loaded r u = record { long = i.long; room = room; refusal = λ gs later t. refused_none _ room (good_all gs later t) r; taken = λ gs later t g. all_entered gs later t }

      pub no_room_left : room ≡ false → PackedRead user s at count before ws sids (Err refusal.TableFull)
      no_room_left r = record { long = i.long; room = room; refusal = λ gs later t. refused_full _ room (good_all gs later t) r; taken = λ gs later t g. all_entered gs later t }

    module _ (h : n < count) where
      pub one_lost : AttributesAt s from None → PackedRead user s at count before ws sids (Err refusal.BadField)
      one_lost f = refused_so i.long (λ gs later t. absurd (kept_lost (group packed_sid) s at count i.kept h f.means gs later t))

      module _ (a : Number) (f : AttributesAt s from (Some a)) {x : List ℕ} (k : RowAt s from x) {v : Bool} (e : v ≡ judged_row user x a.value) where
        abbrev sid : Sid
        sid = sid_in (drop from s)

        abbrev one : GivenGroup
        one = packed_group (drop from s) a.value

        good : v ≡ judged_group user one
        unfolding judged_group judged_given
        good = e ∙ ap (λ (r : List ℕ). judged_row user r a.value) k.is

        pub one_judged : v ≡ false → PackedRead user s at count before ws sids (Err refusal.BadField)
        one_judged z = refused_so i.long λ gs later t.
            judged_as (group packed_sid) s at count (judged_group user) gs later t few
            (kept_bad (group packed_sid) s at count i.kept h one a.next f.means.0 (judged_group user) (sym good ∙ z) gs later t)

        module _ (z : v ≡ true) {sids' : List ℕ} where
          -- SIDs that enter leave the numbers that are given
          module _ {r : Option ℕ} (m : NumberEntered (row_sid x) sids sids' r) where
            its : NumberEntered sid sids sids' r
            its = subst (λ (y : Sid). NumberEntered y sids sids' r) (row_sid_lem k) m

            loaded : (ws' : List ℕ) → length ws' ≡ token_words
                → ((u : List Sid) → Capped u before → fits_table (entered_by (by_sid sid) (entered_all (map group_sid i.groups) u)) ≡ true
                → ws' ≡ headless (map Create.entered (map (group_in (entered_by (by_sid sid) (entered_all (map group_sid i.groups) u))) (i.groups ++ (one ∷ [])))))
                → Loading ws' sids' (n + 1) (room && is_some r) a.next
            loaded ws' l row = record {
              groups = i.groups ++ (one ∷ []);
              long = l;
              kept = kept_one (group packed_sid) s at count i.kept h one a.next f.means.0;
              good = all_more (judged_group user) i.groups one i.good (sym good ∙ z);
              sound = its.sound;
              wide = words_size sids' its.sound;
              taken = λ u c.
                  let last = sids_last i.groups sid a.value u in
                  record {
                    held = subst (λ (y : List Sid). Capped y sids') (sym last) (its.held (entered_all (map group_sid i.groups) u) (i.taken u c).held);
                    fits =
                        ap fits_table last ∙ its.fits (entered_all (map group_sid i.groups) u) (i.taken u c).held
                        ∙ ap (λ (b : Bool). b && is_some r) (i.taken u c).fits ∙ and_assoc (fits_table u) room (is_some r);
                    row = λ fit. row u c (sym (ap fits_table last) ∙ fit) ∙ ap (λ (y : List Sid). headless (map Create.entered (map (group_in y) (i.groups ++ (one ∷ []))))) (sym last);
                  };
            }

          pub one_loaded : {j : ℕ} → NumberEntered (row_sid x) sids sids' (Some j) → {w : ℕ} → w ≡ pack (Create.entered (record { sid = j; attributes = a.value }))
              → Loading (set ws (head_words + n) w) sids' (n + 1) room a.next
          unfolding group_in number_in
          one_loaded {j} m {w} o =
              subst (λ (b : Bool). Loading (set ws (head_words + n) w) sids' (n + 1) b a.next) (and-true room)
              (loaded m (set ws (head_words + n) w) (length-set ws (head_words + n) w ∙ i.long) (λ u c fit. row_then u c fit))
            where
              row_then : (u : List Sid) → Capped u before → fits_table (entered_by (by_sid sid) (entered_all (map group_sid i.groups) u)) ≡ true
                  → set ws (head_words + n) w ≡ headless (map Create.entered (map (group_in (entered_by (by_sid sid) (entered_all (map group_sid i.groups) u))) (i.groups ++ (one ∷ []))))
              row_then u c fit =
                  let so_far : List Sid = entered_all (map group_sid i.groups) u in
                  let then_on : List Sid = entered_by (by_sid sid) so_far in
                  let had : fits_table so_far ≡ true = fits_less so_far then_on (entered_by_long (by_sid sid) so_far) fit in
                  let stay : map (group_in so_far) i.groups ≡ map (group_in then_on) i.groups =
                  numbers_stay so_far then_on i.groups (λ y q. (entered_by_kept (by_sid sid) y so_far (all_entered_in (map group_sid i.groups) y u q)).0) in
                  row_more (group_in then_on) i.groups one ((i.taken u c).row had ∙ ap (λ (l : List rules.Group). headless (map Create.entered l)) stay) i.kept.counted (omega arith)
                  (o ∙ ap (λ (y : ℕ). pack (Create.entered (record { sid = y; attributes = a.value }))) ((its m).number so_far (i.taken u c).held))

          -- without room the row does not matter any more
          pub one_without_room : NumberEntered (row_sid x) sids sids' None → Loading ws sids' (n + 1) false a.next
          one_without_room m =
              subst (λ (b : Bool). Loading ws sids' (n + 1) b a.next) (and-false room)
              (loaded m ws i.long (λ u c fit. absurd (not_both fit ((its m).fits (entered_all (map group_sid i.groups) u) (i.taken u c).held ∙ and-false (fits_table (entered_all (map group_sid i.groups) u))))))
