-- Request 6's entries: one group, its word, one entry, a pass over all, and what the rule says of them. Assumes nothing.
use Prim.Native.Nat.{ℕ, zero, suc, ◌+◌, ◌*◌, ◌-◌, ◌/◌, ◌%◌, ◌≤◌, ◌<◌}
use native.Mathlib.Nat.{add_comm, mod-lt, div-add-mod'}
use native.Mathlib.Omega.{arith}
use mathlib.Core.Path.{◌≡◌, refl, sym, ap, ap₂, ◌∙◌}
use mathlib.Core.Bool.{Bool, true, false, not, ◌&&◌, ◌||◌, and-true, and_assoc}
use mathlib.Core.List.{List, [], ◌∷◌, map, map-map}
use lib.Arith.{digits_div, digits_mod}
use lib.Dec.{eqb, leb, ltb}
use lib.ListN.{length, drop, get_or, set, length-map, get_or-map}
use borrow.Author.Tests.{ltb-true, not-true, not-false}
use Rattle.std.specs.Prelude.{None, Some, Ok, Err, if◌then◌else◌}
use Rattle.rules.specs.Basic.{all, change_at, word32}
use Rattle.rules.specs.Number.{got, max32}
use Rattle.rules.specs.Entry.{Entry, valid_entries, apply_all}
use Rattle.rules.specs.Group.{Group, no_group, with_enabled}
use Rattle.rules.specs.Memory.{pack, unpack}
use Rattle.rules.specs.AdjustPrivileges.{named}
use Rattle.rules.specs.AdjustGroups.{is_reset, valid_entry, is_protected, applied, reset_group, adjusted, enabled_bits}
use Rattle.rules.specs.Request.{times, entry}
use Rattle.rules.proofs.Logic.{and_l}
use Rattle.token.specs.Row.{on_word}
use Rattle.answer.specs.declared.refusal.Refusal.TheVariants.{BadField, ProtectedGroup}
use Rattle.body.specs.declared.entry.Entry as code
use Rattle.body.specs.Entries.{entry_of, PairAt, is_just, fold_all, folded, Progress, going, stopped, passed}
use Rattle.body.proofs.Folding.{count_end, count_lost, count_next}
use Rattle.body.proofs.Passes.{whole, none_whole, some_whole}
use Rattle.adjust_groups.specs.GroupEntries.{groups_in, may_entry, judging, judged, EntriesMade, GroupsSwitched}

-- ---- a group's word

packed_word : (w : ℕ) → pack (unpack w) ≡ w
unfolding pack unpack
packed_word w = add_comm (w % word32) (w / word32 * word32) ∙ div-add-mod' w word32

same_words : (gw : List ℕ) → gw ≡ map pack (groups_in gw)
same_words [] = refl
same_words (w ∷ gw) = ap₂ (λ (x : ℕ) (xs : List ℕ). x ∷ xs) (sym (packed_word w)) (same_words gw)

-- a change that leaves the SID
module _ (f : Group → Group) (keeps : (g : Group) → (f g).sid ≡ g.sid) where
  changed_word : (w : ℕ) → unpack (on_word f w) ≡ f (unpack w)
  unfolding pack unpack
  changed_word w =
      let g = f (unpack w) in
      let below : w % word32 < word32 = mod-lt w (omega arith) in
      let low : g.sid < word32 = omega (arith, keeps (unpack w)) in
      let swap : pack g ≡ g.attributes * word32 + g.sid = add_comm g.sid (g.attributes * word32) in
      λ i. record {
        sid = (ap (λ (x : ℕ). x % word32) swap ∙ digits_mod g.attributes low) i;
        attributes = (ap (λ (x : ℕ). x / word32) swap ∙ digits_div g.attributes low) i;
      }

  word_changed : (k : ℕ) (gw : List ℕ) → groups_in (change_at k (on_word f) gw) ≡ change_at k f (groups_in gw)
  unfolding change_at
  word_changed k [] = refl
  word_changed zero (w ∷ gw) = ap (λ (g : Group). g ∷ groups_in gw) (changed_word w)
  word_changed (suc k) (w ∷ gw) = ap (λ (gs : List Group). unpack w ∷ gs) (word_changed k gw)

switched_sid : (b : Bool) (g : Group) → (with_enabled b g).sid ≡ g.sid
unfolding with_enabled
switched_sid true g = refl
switched_sid false g = refl

pub word_set : (f : ℕ → ℕ) (i : ℕ) (gw : List ℕ) {v : ℕ} → v ≡ f (get_or gw i 0) → set gw i v ≡ change_at i f gw
unfolding change_at
word_set f i [] e = refl
word_set f zero (w ∷ gw) e = ap (λ (x : ℕ). x ∷ gw) e
word_set f (suc i) (w ∷ gw) e = ap (λ (l : List ℕ). w ∷ l) (word_set f i gw e)

pub word_past : (f : ℕ → ℕ) (i : ℕ) (gw : List ℕ) → length gw ≤ i → gw ≡ change_at i f gw
unfolding change_at
word_past f i [] h = refl
word_past f zero (w ∷ gw) h = absurd (omega arith)
word_past f (suc i) (w ∷ gw) h = ap (λ (l : List ℕ). w ∷ l) (word_past f i gw (omega arith))

-- ---- one entry

module _ (gw : List ℕ) where
  pub entry_valid : (k a : ℕ) → (ltb k (length gw) && leb a 1) ≡ valid_entry (groups_in gw) (entry_of k a)
  unfolding valid_entry
  entry_valid k a = ap (λ (n : ℕ). ltb k n && leb a 1) (sym (length-map gw unpack))

  -- the group that an entry names
  pub named_group : (user k a : ℕ) {m : Bool} {g : Group} → g ≡ unpack (get_or gw k 0) → m ≡ is_protected user a g → not m ≡ may_entry user (groups_in gw) (entry_of k a)
  unfolding may_entry no_group unpack
  named_group user k a eg e = ap not (e ∙ ap (is_protected user a) (eg ∙ sym (get_or-map unpack gw k 0)))

  -- a good index is one of a group
  pub index_in : (v n : Bool) (k a : ℕ) → v ≡ (ltb k (length gw) && leb a 1) → (not v || n) ≡ false → k < length gw
  index_in true n k a e h = ltb-true k (length gw) (and_l (ltb k (length gw)) (leb a 1) (sym e))
  index_in false n k a e h = cc

-- ---- the entries, made

abbrev step : Entry → List ℕ → List ℕ
step e gw = change_at e.key (on_word (with_enabled (eqb e.value 1))) gw

all_made : (es : List Entry) (gw : List ℕ) → fold_all step es gw ≡ map pack (apply_all applied es (groups_in gw))
unfolding fold_all apply_all applied
all_made [] gw = same_words gw
all_made (e ∷ es) gw =
    let f = with_enabled (eqb e.value 1) in
    all_made es (step e gw) ∙ ap (λ (gs : List Group). map pack (apply_all applied es gs)) (word_changed f (switched_sid (eqb e.value 1)) e.key gw)

-- what is left gives what the whole gives
pub record Making (s : List ℕ) (start count : ℕ) (gw₀ gw : List ℕ) (at i : ℕ) : Type 0 where
  rest : (stop : List ℕ) → folded step stop gw (times (count - i) entry (drop at s)) ≡ folded step stop gw₀ (times count entry (drop start s))

pub making_none : (s : List ℕ) (start count : ℕ) (gw : List ℕ) → Making s start count gw gw start 0
making_none s start count gw = record { rest = λ stop. ap (λ (k : ℕ). folded step stop gw (times k entry (drop start s))) {x = count - 0} {y = count} (omega arith) }

module _ {s : List ℕ} {start count : ℕ} {gw₀ gw : List ℕ} {at i : ℕ} (m : Making s start count gw₀ gw at i) where
  ended : (gw ≡ folded step gw gw₀ (times count entry (drop start s))) → EntriesMade count (drop start s) gw₀ gw
  unfolding folded
  ended q = record { made = λ es later e. q ∙ ap (folded step gw gw₀) e ∙ all_made es gw₀ }

  pub making_done : count ≤ i → EntriesMade count (drop start s) gw₀ gw
  making_done h = ended (count_end entry step gw s at count i gw _ (m.rest gw) h)

  module _ (h : i < count) where
    -- of entries that were all read before, none is lost
    pub making_lost : PairAt s at None → EntriesMade count (drop start s) gw₀ gw
    making_lost f = ended (count_lost entry step gw s at count i gw _ (m.rest gw) h f.means)

    pub making_more : {e : code.Entry} → PairAt s at (Some e) → {gw' : List ℕ} → gw' ≡ change_at e.key (on_word (with_enabled (eqb e.value 1))) gw → Making s start count gw₀ gw' e.next (i + 1)
    making_more {e} f {gw'} d = record { rest = λ stop. count_next entry step stop s at count i gw _ (m.rest stop) h (entry_of e.key e.value) e.next f.means gw' d }

pub ruleset making = (making_none, making_more, making_lost, making_done)

-- ---- all of them

all_judged : (user : ℕ) (gs : List Group) (es : List Entry) (f : Bool) → apply_all (judging user gs) es f ≡ (f && all (may_entry user gs) es)
unfolding apply_all all
all_judged user gs [] f = sym (and-true f)
all_judged user gs (e ∷ es) f = all_judged user gs es (f && may_entry user gs e) ∙ and_assoc f (may_entry user gs e) (all (may_entry user gs) es)

module _ {A : Type 0} (bad protected done : A) where
  -- what becomes of a pass
  abbrev verdict : Progress Bool → A
  verdict (going free w) = if free then done else protected
  verdict stopped = bad

  verdict_if : (b f : Bool) (w : ℕ) → (if b then (if f then done else protected) else bad) ≡ verdict (if b then going f w else stopped)
  verdict_if true f w = refl
  verdict_if false f w = refl

-- j says that the entries are a reset
module _ (user n : ℕ) (bytes gw : List ℕ) {j : Bool} (h : j ≡ is_just max32 0 (times n entry bytes)) where
  reset_or_not : (es : List Entry) (later : List ℕ) → times n entry bytes ≡ got es later → is_reset es ≡ j
  unfolding is_just is_reset
  reset_or_not es later e = sym (h ∙ ap (is_just max32 0) e)

  pub was_reset : {p : ℕ} → p ≡ enabled_bits (groups_in gw) → j ≡ true → {gw' : List ℕ} → gw' ≡ map (on_word reset_group) gw → GroupsSwitched user n bytes gw gw' (Ok p)
  unfolding adjusted
  was_reset ep f e = record {
    answer = λ es later q. rw (reset_or_not es later q ∙ f) (ap Ok ep);
    words = λ es later q. rw (reset_or_not es later q ∙ f) (e ∙ sym (ap (map pack) (map-map reset_group unpack gw) ∙ map-map pack (λ w. reset_group (unpack w)) gw));
  }

  -- g is what the pass made, if there are entries
  module _ (f : j ≡ false) {g : Progress Bool} (e : g ≡ whole (valid_entry (groups_in gw)) (judging user (groups_in gw)) true (times n entry bytes)) where
    told : (es : List Entry) (later : List ℕ) → times n entry bytes ≡ got es later → {A : Type 0} (a b c : A) → verdict a b c g ≡ judged user (groups_in gw) es a b c
    told es later q a b c =
        let good = valid_entry (groups_in gw) in
        ap (verdict a b c) (e ∙ ap (whole good (judging user (groups_in gw)) true) q)
        ∙ ap (λ (y : Bool). verdict a b c (if valid_entries good es then going y (named es) else stopped)) (all_judged user (groups_in gw) es true)
        ∙ sym (verdict_if a b c (valid_entries good es) (all (may_entry user (groups_in gw)) es) (named es))
        ∙ rw (reset_or_not es later q ∙ f)

    was_bad : stopped ≡ g → GroupsSwitched user n bytes gw gw (Err BadField)
    was_bad s = record {
      answer = λ es later q. ap (verdict (Err BadField) (Err ProtectedGroup) (Ok (enabled_bits (groups_in gw)))) s ∙ told es later q (Err BadField) _ _;
      words = λ es later q. ap (verdict gw gw _) s ∙ told es later q gw gw _;
    }

    module _ {free : Bool} {w : ℕ} (s : going free w ≡ g) where
      free_told : {x : Bool} → free ≡ x → (es : List Entry) (later : List ℕ) → times n entry bytes ≡ got es later
          → {A : Type 0} (a b c : A) → (if x then c else b) ≡ judged user (groups_in gw) es a b c
      free_told ex es later q a b c = ap (λ (y : Bool). if y then c else b) (sym ex) ∙ ap (verdict a b c) s ∙ told es later q a b c

      was_protected : free ≡ false → GroupsSwitched user n bytes gw gw (Err ProtectedGroup)
      was_protected x = record {
        answer = λ es later q. free_told x es later q (Err BadField) (Err ProtectedGroup) (Ok (enabled_bits (groups_in gw)));
        words = λ es later q. free_told x es later q gw gw _;
      }

      was_switched : free ≡ true → {p : ℕ} → p ≡ enabled_bits (groups_in gw) → {gw' : List ℕ} → EntriesMade n bytes gw gw' → GroupsSwitched user n bytes gw gw' (Ok p)
      unfolding adjusted
      was_switched x ep {gw'} m = record {
        answer = λ es later q. ap Ok ep ∙ free_told x es later q (Err BadField) (Err ProtectedGroup) (Ok (enabled_bits (groups_in gw)));
        words = λ es later q.
            m.made es later q
            ∙ ap (λ (y : Bool). map pack (if y then map reset_group (groups_in gw) else apply_all applied es (groups_in gw))) (sym (reset_or_not es later q ∙ f))
            ∙ free_told x es later q gw gw _;
      }

  pub none_given : j ≡ false → n ≡ 0 → GroupsSwitched user n bytes gw gw (Err BadField)
  none_given f z = was_bad f (none_whole _ _ _ _ _ z) refl

  module _ (f : j ≡ false) (z : n ≡ 0 → ⊥) where
    pub entry_bad : stopped ≡ passed (valid_entry (groups_in gw)) (judging user (groups_in gw)) true (times n entry bytes) → GroupsSwitched user n bytes gw gw (Err BadField)
    entry_bad e = was_bad f (e ∙ some_whole _ _ _ _ _ z) refl

    module _ {free : Bool} {w : ℕ} (e : going free w ≡ passed (valid_entry (groups_in gw)) (judging user (groups_in gw)) true (times n entry bytes)) where
      pub one_protected : not free ≡ true → GroupsSwitched user n bytes gw gw (Err ProtectedGroup)
      one_protected x = was_protected f (e ∙ some_whole _ _ _ _ _ z) refl (not-true free x)

      pub all_switched : {gw' : List ℕ} → EntriesMade n bytes gw gw' → {p : ℕ} → p ≡ enabled_bits (groups_in gw) → not free ≡ false → GroupsSwitched user n bytes gw gw' (Ok p)
      all_switched m ep x = was_switched f (e ∙ some_whole _ _ _ _ _ z) refl (not-false free x) ep m

pub ruleset switching = (was_reset, none_given, entry_bad, one_protected)
