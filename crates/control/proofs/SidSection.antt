-- The SID table's section: its first word, a copy of it, another table in its place, and a SID of it written. Assumes nothing.
use Prim.Native.Nat.{ℕ, zero, suc, ◌-◌, ◌≤◌, ◌<◌}
use native.Mathlib.Omega.{arith}
use mathlib.Core.Path.{◌≡◌, refl, sym, ap, ap₂, ◌∙◌, subst}
use mathlib.Core.Bool.{Bool, true, false, ◌&&◌, and-false}
use mathlib.Core.List.{List, [], ◌∷◌, ◌++◌, map, append_assoc}
use lib.Dec.{eqb, leb, ltb}
use lib.ListN.{length, take, drop, get_or, set}
use borrow.Author.Tests.{eq-eqb, ne_eqb}
use lib.Seq.{drop_at, take-append-add, drop-append-add}
use Rattle.table.specs.Table.{flat}
use Rattle.table.specs.Sections.{place_of, joined, section_part, section_word, sections_long}
use Rattle.std.specs.Prelude.{if◌then◌else◌, Option, Some, None, unwrap_or, IfSome}
use Rattle.rules.specs.Number.{got}
use Rattle.rules.specs.Sid.{Sid, packed}
use Rattle.rules.specs.SidTable.{max_sids, is_number, place_of_number, sid_of, sids_valid}
use Rattle.rules.specs.SidRows.{sid_words, row_sid, write_sids, ordered, sids_at, sid_words_valid}
use Rattle.rules.specs.State.{State, with_sids}
use Rattle.rules.specs.Valid.{valid}
use Rattle.rules.specs.Memory.{sid_section, control_sizes, control_words, sids_in, sections}
use Rattle.rules.proofs.Facts.{valid_facts}
use Rattle.rules.proofs.SidWords.{length_sids, read_back, written_valid}
use Rattle.sid.specs.Reading.{can_write}
use Rattle.sid.specs.Numbers.{has_number, number_row, can_write_number, WroteNumber}
use Rattle.sid.proofs.Numbers.{sized, written, reads_back}
use Rattle.control.specs.Control.{ControlIn}
use Rattle.control.specs.Sids.{SidCount, SidsCopied, SidsSet, sid_bytes, Gives, SidWritten}

-- where the table begins
abbrev at : ℕ
at = place_of control_sizes sid_section

-- its first word
pub sid_count_lem : (ws : List ℕ) → SidCount ws (get_or ws at 0)
unfolding sections write_sids ordered
sid_count_lem ws = record { count = λ σ i. section_word i.words sid_section 0 0 (omega arith) }

pub sids_copied : (ws : List ℕ) {r : List ℕ} → r ≡ take (control_words - at) (drop at ws) → SidsCopied ws r
unfolding sections
sids_copied ws e = record { copied = λ σ i. e ∙ section_part i.words sid_section }

-- ---- another section in the place of one

module _ {A : Type 0} where
  put_joined : (xss : List (List A)) (k : ℕ) (v : List A) → k < length xss
      → take (place_of (map length xss) k) (joined xss) ++ (v ++ drop (get_or (map length xss) k 0) (drop (place_of (map length xss) k) (joined xss))) ≡ joined (set xss k v)
  unfolding flat
  put_joined [] k v h = absurd (omega arith)
  put_joined (xs ∷ xss) zero v h = ap (λ (l : List A). v ++ l) (drop_at xs (joined xss) (length xs) refl)
  put_joined (xs ∷ xss) (suc k) v h =
      let n : ℕ = place_of (map length xss) k in
      ap₂ (λ (a b : List A). a ++ (v ++ drop (get_or (map length xss) k 0) b)) (take-append-add xs (joined xss) n) (drop-append-add xs (joined xss) n)
      ∙ append_assoc xs (take n (joined xss)) _
      ∙ ap (λ (l : List A). xs ++ l) (put_joined xss k v (omega arith))

pub sids_set : (ws : List ℕ) {xs ys : List ℕ} → ys ≡ xs → SidsSet xs ws (take at ws ++ (ys ++ drop (control_words - at) (drop at ws)))
unfolding sections with_sids
sids_set ws {xs} {ys} e = record {
  control = λ σ sids h i.
      let whole = ap₂ (λ (ms : List ℕ) (l : List ℕ). take (place_of ms sid_section) l ++ (ys ++ drop (get_or ms sid_section 0) (drop (place_of ms sid_section) l))) (sym i.words.fixed) i.words.words in
      record {
        words = record {
          words = whole ∙ put_joined (sections σ) sid_section ys (omega arith) ∙ ap (λ (l : List ℕ). joined (set (sections σ) sid_section l)) (e ∙ h);
          fixed = ap (λ (ms : List ℕ). set ms sid_section (length (write_sids sids))) i.words.fixed ∙ ap (set control_sizes sid_section) (length_sids sids);
        };
      };
}

-- ---- a SID written

module _ (ws : List ℕ) (n : ℕ) (out : List ℕ) where
  -- words that are not as many hold no state
  pub wrong_size : (length ws ≡ control_words → ⊥) → SidWritten ws n out out 0
  wrong_size ne =
      let e = ne_eqb (length ws) control_words ne in
      record {
        size = rw e;
        bytes = rw e;
        gives = λ σ v i. absurd (ne (sections_long i.words));
        none = λ σ v i. absurd (ne (sections_long i.words));
      }

  module _ (l : length ws ≡ control_words) {out' : List ℕ} {r : Option ℕ} (w : WroteNumber (take (control_words - at) (drop at ws)) n out out' r) where
    its_words : (σ : State) → ControlIn σ ws → sids_in ws ≡ write_sids σ.sids
    unfolding sections
    its_words σ i = section_part i.words sid_section

    module _ (σ : State) (v : valid σ ≡ true) (i : ControlIn σ ws) where
      ok : sids_valid σ.sids ≡ true
      ok = (valid_facts σ v).loose.sids

      back : sids_at (sids_in ws) ≡ σ.sids
      back = ap sids_at (its_words σ i) ∙ read_back σ.sids ok

      sound : sid_words_valid (sids_in ws) ≡ true
      sound = ap sid_words_valid (its_words σ i) ∙ written_valid σ.sids ok

      gives_it : is_number σ.sids n ≡ true → length (packed (sid_of σ.sids n)) ≤ length out → Gives σ n out out' (unwrap_or r 0)
      gives_it h room =
          let k : is_number (sids_at (sids_in ws)) n ≡ true = ap (λ (t : List Sid). is_number t n) back ∙ h in
          let few : length (packed (sid_of (sids_at (sids_in ws)) n)) ≤ length out = subst (λ (t : List Sid). length (packed (sid_of t n)) ≤ length out) (sym back) room in
          let size : r ≡ Some (length (packed (sid_of σ.sids n))) = sized (sids_in ws) n out sound k few w ∙ ap (λ (t : List Sid). Some (length (packed (sid_of t n)))) back in
          rw size
          (record {
            size = refl;
            bytes = written (sids_in ws) n out sound k few w ∙ ap (λ (t : List Sid). packed (sid_of t n) ++ drop (length (packed (sid_of t n))) out) back;
            back = reads_back (sids_in ws) n out sound k few w ∙ ap (λ (t : List Sid). got (sid_of t n) (drop (length (packed (sid_of t n))) out)) back;
          })

      -- can_write_number asks that it is a number
      cannot : is_number σ.sids n ≡ false → can_write_number (sids_in ws) n out ≡ false
      unfolding can_write_number has_number
      cannot h = ap (λ (b : Bool). eqb (length (sids_in ws)) sid_words && leb (get_or (sids_in ws) 0 0) max_sids && b && ltb (place_of_number n) (get_or (sids_in ws) 0 0) && can_write (number_row (sids_in ws) n) out) (ap (λ (t : List Sid). is_number t n) back ∙ h)
          ∙ ap (λ (b : Bool). b && ltb (place_of_number n) (get_or (sids_in ws) 0 0) && can_write (number_row (sids_in ws) n) out) (and-false (eqb (length (sids_in ws)) sid_words && leb (get_or (sids_in ws) 0 0) max_sids))

      none_there : is_number σ.sids n ≡ false → (unwrap_or r 0 ≡ 0) × (out' ≡ out)
      none_there h =
          let none : r ≡ None = w.size ∙ rw (cannot h) in
          let same : out' ≡ out = w.bytes ∙ rw (cannot h) in
          (ap (λ (o : Option ℕ). unwrap_or o 0) none, same)

    size_or : (b : Bool) (k : ℕ) → unwrap_or (if b then Some k else None) 0 ≡ (if b then k else 0)
    size_or true k = refl
    size_or false k = refl

    bytes_or : (b : Bool) (l : List ℕ) → (if b then l ++ drop (length l) out else out) ≡ (if b then l ++ drop (if b then length l else 0) out else out)
    bytes_or true l = refl
    bytes_or false l = refl

    its_size : unwrap_or r 0 ≡ (if can_write_number (sids_in ws) n out then length (sid_bytes ws n) else 0)
    its_size = ap (λ (o : Option ℕ). unwrap_or o 0) w.size ∙ size_or (can_write_number (sids_in ws) n out) (length (sid_bytes ws n))

    pub right_size : SidWritten ws n out out' (unwrap_or r 0)
    right_size = record {
      size = rw (eq-eqb (length ws) control_words l) its_size;
      bytes =
          rw (eq-eqb (length ws) control_words l)
          (w.bytes ∙ bytes_or (can_write_number (sids_in ws) n out) (sid_bytes ws n)
          ∙ ap (λ (k : ℕ). if can_write_number (sids_in ws) n out then sid_bytes ws n ++ drop k out else out) (sym its_size));
      gives = gives_it;
      none = none_there;
    }

-- a SID has bytes
pub some_bytes : (ws : List ℕ) (n : ℕ) {out out' : List ℕ} {r : Option ℕ} → WroteNumber ws n out out' r → IfSome r (λ size. 0 < size)
unfolding packed
some_bytes ws n {out} w = rw w.size (by (can_write_number ws n out))
  where
    by : (b : Bool) → IfSome (if b then Some (length (packed (row_sid (number_row ws n)))) else None) (λ size. 0 < size)
    by true = omega arith
    by false = tt
