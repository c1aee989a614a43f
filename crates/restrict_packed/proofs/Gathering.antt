-- Request 15's packed SIDs enter the table one by one; a number once given stays. Assumes nothing.
use Prim.Native.Nat.{ℕ, suc, ◌+◌, ◌-◌, ◌≤◌, ◌<◌}
use native.Mathlib.Omega.{arith}
use mathlib.Core.Path.{◌≡◌, refl, sym, ap, ap₂, ◌∙◌, subst}
use mathlib.Core.Bool.{Bool, true, false, not, ◌&&◌, ◌||◌, or-true, or-false}
use mathlib.Core.List.{List, [], ◌∷◌, ◌++◌, map, map-append}
use lib.Dec.{eqb}
use lib.ListN.{length, take, drop, get_or, set, replicate, length-set, length-replicate, get_or-replicate}
use lib.Seq.{take_all, get_or-set_same, get_or-set_other}
use borrow.Author.Tests.{eqb-true, eq-eqb, ne_eqb, lt-ltb, not-true, not-false}
use Rattle.std.specs.Prelude.{Option, None, Some, is_some, IfSome, IfNone}
use Rattle.rules.specs.Basic.{all, is_below, member}
use Rattle.rules.specs.Number.{got}
use Rattle.rules.specs.Sid.{Sid, valid_sid, is_packed, sid_size, sid_in, read_sid}
use Rattle.rules.specs.SidTable.{max_sids, number_at, is_in, number_of, entered, fits_table, sids_valid}
use Rattle.rules.specs.SidRows.{sid_row, row_sid, sid_words, sids_at, write_sids, sid_words_valid}
use Rattle.rules.specs.Given.{Given, by_number, by_sid, entered_by, entered_all, number_in}
use Rattle.rules.specs.Request.{packed_sid}
use Rattle.rules.proofs.Logic.{and_l, and_r, and_i, not_both, member_append, all_append}
use Rattle.rules.proofs.Sids.{all_drop, read_form, row_back}
use Rattle.rules.proofs.SidNumbers.{sids_few, entered_in, entered_keeps, entered_stays}
use Rattle.rules.proofs.SidWords.{written_valid, words_size, words_written, words_valid}
use Rattle.sid.specs.Reading.{packed_size}
use Rattle.sid.specs.Finding.{Rowed}
use Rattle.given.specs.Given.{Capped, GivenEntered}
use Rattle.body.proofs.Sids.{no_sid_lem, sid_there}
use Rattle.copy.specs.declared.restricting.Sids.{Sids}
use Rattle.copy.specs.Restricting.{Listed, SidAdded}
use Rattle.copy.proofs.RestrictingSids.{no_sids, none_listed}
use Rattle.restrict_packed.specs.Gathered.{numbers_end, RowAt, is_marked, Marked, is_it, Noted, is_known, numbers_in, AllIn, PackedGathered}
use Rattle.restrict_packed.proofs.ReadSoFar.{Reads, reads_begin, reads_end, reads_lost, reads_next}

-- ---- a row

all_256 : (ws : List ℕ) → ((i : ℕ) → get_or ws i 0 < 256) → all (is_below 256) ws ≡ true
unfolding all is_below
all_256 [] h = refl
all_256 (w ∷ ws) h = and_i (lt-ltb w 256 (h 0)) (all_256 ws (λ i. h (suc i)))

read_is : (bytes : List ℕ) → is_packed bytes ≡ true → read_sid bytes ≡ got (sid_in bytes) (drop (sid_size bytes) bytes)
unfolding read_sid
read_is bytes h = rw h

pub row_read : (s : List ℕ) (at : ℕ) → ((i : ℕ) → get_or s i 0 < 256) → is_packed (drop at s) ≡ true → {r : List ℕ} → r ≡ sid_row (sid_in (drop at s)) → RowAt s at r
row_read s at b h e = record {
  is = e;
  sound = (read_form (drop at s) (all_drop (is_below 256) at s (all_256 s b)) (sid_in (drop at s)) (drop (sid_size (drop at s)) (drop at s)) (read_is (drop at s) h)).1;
}

row_sid_lem : {s : List ℕ} {at : ℕ} {x : List ℕ} → RowAt s at x → row_sid x ≡ sid_in (drop at s)
row_sid_lem {s} {at} k = ap row_sid k.is ∙ row_back (sid_in (drop at s)) k.sound

pub rowed : {s : List ℕ} {at : ℕ} {x : List ℕ} → RowAt s at x → Rowed x
rowed k = record { same = ap sid_row (row_sid_lem k) ∙ sym k.is; sound = ap valid_sid (row_sid_lem k) ∙ k.sound }

-- ---- marks

marked_below : (ms : List Bool) (k : ℕ) → k < numbers_end → is_marked ms k ≡ get_or ms k false
unfolding is_marked
marked_below ms k l = ap (λ (b : Bool). b && get_or ms k false) (lt-ltb k numbers_end l)

module _ (n : ℕ) (ms : List Bool) (l : length ms ≡ numbers_end) where
  pub marks_it : n < numbers_end → Marked n ms (set ms n true)
  marks_it h = record { long = length-set ms n true ∙ l; marked = λ k low. by k low (eqb k n) refl }
    where
      by : (k : ℕ) → k < numbers_end → (b : Bool) → eqb k n ≡ b → is_marked (set ms n true) k ≡ (is_marked ms k || b)
      by k low true e =
          marked_below (set ms n true) k low
          ∙ ap (λ (j : ℕ). get_or (set ms n true) j false) (eqb-true k n e) ∙ get_or-set_same ms n true false (omega arith)
          ∙ sym (or-true (is_marked ms k))
      by k low false e =
          marked_below (set ms n true) k low
          ∙ get_or-set_other ms n k true false (λ q. not_both (ap (λ (j : ℕ). eqb j n) q ∙ same n) e)
          ∙ sym (marked_below ms k low) ∙ sym (or-false (is_marked ms k))
        where
          same : (j : ℕ) → eqb j j ≡ true
          same j = eq-eqb j j refl

  pub marks_none : numbers_end ≤ n → Marked n ms ms
  marks_none h = record { long = l; marked = λ k low. sym (ap (λ (b : Bool). is_marked ms k || b) (ne_eqb k n (λ e. omega arith)) ∙ or-false (is_marked ms k)) }

none_marked : (ms : List Bool) → ms ≡ replicate numbers_end false → (k : ℕ) → k < numbers_end → is_marked ms k ≡ false
none_marked ms e k l = marked_below ms k l ∙ ap (λ (l : List Bool). get_or l k false) e ∙ get_or-replicate numbers_end k false false l

-- ---- one that entered, noted

-- it has no number
pub notes_none : (list : Option Sids) (ms : List Bool) → length ms ≡ numbers_end → Noted list None ms ms None
notes_none list ms l = record { long = l; marked = λ k low. sym (or-false (is_marked ms k)); room = by list; listed = tt }
  where
    by : (o : Option Sids) → false ≡ (is_some o && false)
    by (Some x) = refl
    by None = refl

module _ (n : ℕ) (ms ms' : List Bool) (m : Marked n ms ms') where
  pub notes_lost : Noted None (Some n) ms ms' None
  notes_lost = record { long = m.long; marked = m.marked; room = refl; listed = tt }

  pub notes_it : (l l' : Sids) → SidAdded n l l' → Noted (Some l) (Some n) ms ms' (Some l')
  notes_it l l' d = record { long = m.long; marked = m.marked; room = refl; listed = (l, n, refl, refl, d) }

-- ---- one SID more

entered_all_more : (xs : List Given) (x : Given) (t : List Sid) → entered_all (xs ++ (x ∷ [])) t ≡ entered_by x (entered_all xs t)
unfolding entered_all
entered_all_more [] x t = refl
entered_all_more (y ∷ ys) x t = entered_all_more ys x (entered_by y t)

all_more : (f : Given → Bool) (xs : List Given) (x : Given) → all f xs ≡ true → f x ≡ true → all f (xs ++ (x ∷ [])) ≡ true
unfolding all
all_more f xs x h e = all_append f xs (x ∷ []) h (and_i e refl)

module _ (x : Sid) (t : List Sid) where
  numbers_keep : (ys : List Given) → all (is_known t) ys ≡ true → map (number_in (entered x t)) ys ≡ map (number_in t) ys
  unfolding all is_known number_in
  numbers_keep [] h = refl
  numbers_keep (by_number n ∷ ys) h = absurd (not_both h refl)
  numbers_keep (by_sid s ∷ ys) h = ap₂ (λ (n : ℕ) (l : List ℕ). n ∷ l) (entered_keeps x s t (and_l (is_in s t) (all (is_known t) ys) h)) (numbers_keep ys (and_r (is_in s t) (all (is_known t) ys) h))

  known_keep : (ys : List Given) → all (is_known t) ys ≡ true → all (is_known (entered x t)) ys ≡ true
  unfolding all is_known
  known_keep [] h = refl
  known_keep (by_number n ∷ ys) h = absurd (not_both h refl)
  known_keep (by_sid s ∷ ys) h = and_i (entered_stays x s t (and_l (is_in s t) (all (is_known t) ys) h)) (known_keep ys (and_r (is_in s t) (all (is_known t) ys) h))

module _ {done : List Given} {t : List Sid} {ws : List ℕ} {ms : List Bool} {list : Option Sids} (k : AllIn done t ws ms list) (x : Sid) {ws' : List ℕ} {ms' : List Bool} {e : Option ℕ} {list' : Option Sids}
    (n : GivenEntered x ws ws' e) (m : Noted list e ms ms' list') where
  abbrev before : List Sid
  before = entered_all done t

  abbrev more : List Given
  more = done ++ (by_sid x ∷ [])

  table_more : entered_all more t ≡ entered x before
  unfolding entered_by
  table_more = entered_all_more done (by_sid x) t

  numbers_more : numbers_in more t ≡ numbers_in done t ++ (number_of (entered x before) x ∷ [])
  unfolding number_in
  numbers_more =
      ap (λ (u : List Sid). map (number_in u) more) table_more ∙ map-append (number_in (entered x before)) done (by_sid x ∷ [])
      ∙ ap (λ (l : List ℕ). l ++ (number_of (entered x before) x ∷ [])) (numbers_keep x before done k.known)

  known_more : all (is_known (entered x before)) more ≡ true
  unfolding is_known
  known_more = all_more (is_known (entered x before)) done (by_sid x) (known_keep x before done k.known) (entered_in x before)

  -- where there is no room, its number is not below the end
  same_mark : (j : ℕ) → j < numbers_end → is_it j e ≡ eqb j (number_of (entered x before) x)
  unfolding number_at
  same_mark j low = by e (n.number before k.held) (n.none before k.held)
    where
      by : (o : Option ℕ) → IfSome o (λ i. i ≡ number_of (entered x before) x) → IfNone o (number_at max_sids ≤ number_of (entered x before) x) → is_it j o ≡ eqb j (number_of (entered x before) x)
      by (Some i) q p = ap (eqb j) q
      by None q p = let past : 286 ≤ number_of (entered x before) x = p in sym (ne_eqb j (number_of (entered x before) x) (λ q. omega arith))

  marked_more : (j : ℕ) → j < numbers_end → is_marked ms' j ≡ member j (numbers_in more t)
  unfolding member
  marked_more j low =
      m.marked j low ∙ ap₂ ◌||◌ (k.marked j low) (same_mark j low ∙ sym (or-false (eqb j (number_of (entered x before) x))))
      ∙ sym (ap (member j) numbers_more ∙ member_append j (numbers_in done t) (number_of (entered x before) x ∷ []))

  listed_more : IfSome list' (Listed (numbers_in more t))
  listed_more = by list' m.listed
    where
      by : (o : Option Sids) → IfSome o (λ l'. (l : Sids) × (i : ℕ) × (list ≡ Some l) × (e ≡ Some i) × SidAdded i l l') → IfSome o (Listed (numbers_in more t))
      by None h = tt
      by (Some l') h =
          let listed : Listed (numbers_in done t) h.0 = subst (λ (o : Option Sids). IfSome o (Listed (numbers_in done t))) h.2 k.listed in
          let number : h.1 ≡ number_of (entered x before) x = subst (λ (o : Option ℕ). IfSome o (λ i. i ≡ number_of (entered x before) x)) h.3 (n.number before k.held) in
          subst (λ (l : List ℕ). Listed l l') (ap (λ (i : ℕ). numbers_in done t ++ (i ∷ [])) number ∙ sym numbers_more) (h.4.listed (numbers_in done t) listed)

  one_more : AllIn more t ws' ms' list'
  one_more = record {
    held = subst (λ (u : List Sid). Capped u ws') (sym table_more) (n.held before k.held);
    room = m.room ∙ ap (λ (b : Bool). b && is_some e) k.room ∙ sym (n.fits before k.held) ∙ ap fits_table (sym table_more);
    known = ap (λ (u : List Sid). all (is_known u) more) table_more ∙ known_more;
    marked = marked_more;
    listed = listed_more;
  }

none_yet : (t : List Sid) {ws : List ℕ} {ms : List Bool} → Capped t ws → fits_table t ≡ true → ms ≡ replicate numbers_end false → AllIn [] t ws ms (Some no_sids)
unfolding entered_all all member
none_yet t {ms = ms} c f e = record { held = c; room = sym f; known = refl; marked = none_marked ms e; listed = none_listed }

-- ---- the words stay valid

capped_valid : {t : List Sid} {ws : List ℕ} → Capped t ws → sid_words_valid ws ≡ true
capped_valid {t} c = ap sid_words_valid c.words ∙ written_valid (take max_sids t) c.sound

pub valid_capped : (t : List Sid) {ws : List ℕ} → sids_valid t ≡ true → ws ≡ write_sids t → Capped t ws
valid_capped t v e =
    let whole = take_all max_sids t (sids_few t v) in
    record { words = e ∙ ap write_sids (sym whole); sound = ap sids_valid whole ∙ v }

entered_valid : {x : Sid} {ws ws' : List ℕ} {e : Option ℕ} → sid_words_valid ws ≡ true → GivenEntered x ws ws' e → sid_words_valid ws' ≡ true
entered_valid {ws = ws} v n = capped_valid (n.held (sids_at ws) (valid_capped (sids_at ws) (words_valid ws v) (sym (words_written ws v))))

-- ---- the loop, which has read i of the SIDs

pub record Gathering (s : List ℕ) (at count : ℕ) (ws₀ ws : List ℕ) (ms : List Bool) (list : Option Sids) (from i : ℕ) : Type 0 where
  pub is_valid : sid_words_valid ws ≡ true
  pub long : length ws ≡ sid_words
  pub marks : length ms ≡ numbers_end
  pub few : IfSome list (λ l. l.count ≤ i)
  pub reads : Reads packed_sid (λ done. (t : List Sid) → Capped t ws₀ → fits_table t ≡ true → AllIn done t ws ms list) s at count from (count - i)

module _ (s : List ℕ) (at count : ℕ) {ws₀ : List ℕ} where
  -- no state has such words
  pub gather_none : {b : Bool} {ms : List Bool} {list : Option Sids} → length ws₀ ≡ sid_words → b ≡ sid_words_valid ws₀ → not b ≡ true → PackedGathered s at count ws₀ ws₀ ms list
  gather_none {b} l e h = record { long = l; gathered = λ given later f t c fits. absurd (not_both (capped_valid c) (sym e ∙ not-true b h)) }

  pub gather_begin : {b : Bool} {ms : List Bool} → b ≡ sid_words_valid ws₀ → not b ≡ false → ms ≡ replicate numbers_end false → Gathering s at count ws₀ ws₀ ms (Some no_sids) at 0
  gather_begin {b} {ms} e h z =
      let v = sym e ∙ not-false b h in
      record {
        is_valid = v;
        long = words_size ws₀ v;
        marks = ap length z ∙ length-replicate {A = Bool} numbers_end false;
        few = omega arith;
        reads = subst (λ (left : ℕ). Reads packed_sid (λ done. (t : List Sid) → Capped t ws₀ → fits_table t ≡ true → AllIn done t ws₀ ms (Some no_sids)) s at count at left) whole
            (reads_begin packed_sid (λ done. (t : List Sid) → Capped t ws₀ → fits_table t ≡ true → AllIn done t ws₀ ms (Some no_sids)) s at count (λ t c f. none_yet t c f z));
      }
    where
      whole : count ≡ count - 0
      whole = omega arith

  module _ {ws : List ℕ} {ms : List Bool} {list : Option Sids} {from i : ℕ} (k : Gathering s at count ws₀ ws ms list from i) where
    pub gather_end : count ≤ i → PackedGathered s at count ws₀ ws ms list
    gather_end h = record { long = k.long; gathered = λ given later e. reads_end packed_sid k.reads e (omega arith) }

    module _ (h : i < count) where
      pub gather_lost : None ≡ packed_size (drop from s) → {r : Option Sids} → PackedGathered s at count ws₀ ws ms r
      gather_lost z = record { long = k.long; gathered = λ given later f. absurd (reads_lost packed_sid k.reads f (omega arith) (no_sid_lem s from z)) }

      pub gather_next : (size : ℕ) → Some size ≡ packed_size (drop from s) → {x ws' : List ℕ} {ms' : List Bool} {y : Option ℕ} {list' : Option Sids} → RowAt s from x → GivenEntered (row_sid x) ws ws' y
          → Noted list y ms ms' list' → Gathering s at count ws₀ ws' ms' list' (from + size) (i + 1)
      gather_next size e {x} {ws'} {ms'} {y} {list'} r n m =
          let v = entered_valid k.is_valid n in
          record {
            is_valid = v;
            long = words_size ws' v;
            marks = m.long;
            few = by list' m.listed;
            reads = subst (λ (left : ℕ). Reads packed_sid (λ done. (t : List Sid) → Capped t ws₀ → fits_table t ≡ true → AllIn done t ws' ms' list') s at count (from + size) left) left_less
                (reads_next packed_sid k.reads (omega arith) (by_sid (sid_in (drop from s))) (from + size) (sid_there s from size e)
                (λ done. (t : List Sid) → Capped t ws₀ → fits_table t ≡ true → AllIn done t ws' ms' list')
                (λ done a t c f. one_more (a t c f) (sid_in (drop from s)) (subst (λ (z : Sid). GivenEntered z ws ws' y) (row_sid_lem r) n) m));
          }
        where
          left_less : count - i - 1 ≡ count - (i + 1)
          left_less = omega arith

          by : (o : Option Sids) → IfSome o (λ l'. (l : Sids) × (j : ℕ) × (list ≡ Some l) × (y ≡ Some j) × SidAdded j l l') → IfSome o (λ l'. l'.count ≤ i + 1)
          by None q = tt
          by (Some l') q =
              let few : q.0.count ≤ i = subst (λ (o : Option Sids). IfSome o (λ l. l.count ≤ i)) q.2 k.few in
              let more = q.4.count in
              omega arith
