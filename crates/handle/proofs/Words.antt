-- The list's words: the handle that stands in a slot, and what a store there is. Assumes nothing.
use mathlib.Core.Path.{◌≡◌, refl, sym, ap, ◌∙◌}
use mathlib.Core.List.{List, [], ◌∷◌}
use Prim.Native.Nat.{ℕ, zero, suc, ◌+◌, ◌*◌, ◌/◌, ◌%◌, ◌≤◌, ◌<◌}
use native.Mathlib.Omega.{arith}
use lib.Arith.{digits_div, digits_mod}
use lib.ListN.{length, drop, get_or, set, replicate, length-set, get_or-eq_default}
use Rattle.rules.specs.State.{handle_slots}
use Rattle.rules.specs.Basic.{word32}
use Rattle.handle.specs.declared.Handle.{Handle}
use Rattle.handle.specs.Meaning.{none}
use Rattle.handle.specs.Words.{slot_words, word16, first_word, record_in, records_from, records_in}

pub records_long : (n : ℕ) (ws : List ℕ) → length (records_from n ws) ≡ n
unfolding records_from
records_long zero ws = refl
records_long (suc n) ws = ap suc (records_long n (drop slot_words ws))

-- a slot's words begin at k
abbrev record_at : ℕ → List ℕ → Handle
record_at k ws = record { station = get_or ws k 0 % word16; mask = get_or ws k 0 / word16 % word16; number = get_or ws k 0 / word32; token = get_or ws (suc k) 0 }

read_from_lem : (n i k : ℕ) (ws : List ℕ) → k ≡ i * slot_words → i < n → record_at k ws ≡ get_or (records_from n ws) i none
unfolding records_from
read_from_lem zero i k ws e h = absurd (omega arith)
read_from_lem (suc n) zero zero ws e h = refl
read_from_lem (suc n) zero (suc k) ws e h = absurd (omega arith)
read_from_lem (suc n) (suc i) zero ws e h = absurd (omega arith)
read_from_lem (suc n) (suc i) (suc zero) ws e h = absurd (omega arith)
read_from_lem (suc n) (suc i) (suc (suc k)) (a ∷ b ∷ ws) e h = read_from_lem n i k ws (omega arith) (omega arith)
read_from_lem (suc n) (suc i) (suc (suc k)) [] e h = read_from_lem n i k [] (omega arith) (omega arith)
read_from_lem (suc n) (suc i) (suc (suc k)) (a ∷ []) e h = read_from_lem n i k [] (omega arith) (omega arith)

pub slot_read : (ws : List ℕ) (i : ℕ) (h : Handle) → i < handle_slots
    → h.station ≡ get_or ws (i * slot_words) 0 % word16 → h.mask ≡ get_or ws (i * slot_words) 0 / word16 % word16 → h.number ≡ get_or ws (i * slot_words) 0 / word32 → h.token ≡ get_or ws (i * slot_words + 1) 0
    → h ≡ get_or (records_in ws) i none
slot_read ws i h l s m n t =
    let one : i * slot_words + 1 ≡ suc (i * slot_words) = omega arith in
    (λ j. record { station = s j; mask = m j; number = n j; token = (t ∙ ap (λ (k : ℕ). get_or ws k 0) one) j })
    ∙ read_from_lem handle_slots i (i * slot_words) ws refl l

pub slot_past : (ws : List ℕ) (i : ℕ) → handle_slots ≤ i → none ≡ get_or (records_in ws) i none
slot_past ws i h = sym (get_or-eq_default (records_in ws) none {n = i} (omega (arith, records_long handle_slots ws)))

-- ---- a record stored: it is read back, and the others stay

module _ (h : Handle) (s : h.station < word16) (m : h.mask < word16) where
  back : record { station = first_word h % word16; mask = first_word h / word16 % word16; number = first_word h / word32; token = h.token } ≡ h
  back =
      let split : first_word h ≡ (h.number * word16 + h.mask) * word16 + h.station = omega arith in
      let high : first_word h / word16 ≡ h.number * word16 + h.mask = ap (λ (w : ℕ). w / word16) split ∙ digits_div (h.number * word16 + h.mask) s in
      let halves : first_word h ≡ h.number * word32 + (h.station + h.mask * word16) = omega arith in
      let low : h.station + h.mask * word16 < word32 = omega arith in
      let one : first_word h % word16 ≡ h.station = ap (λ (w : ℕ). w % word16) split ∙ digits_mod (h.number * word16 + h.mask) s in
      let two : first_word h / word16 % word16 ≡ h.mask = ap (λ (w : ℕ). w % word16) high ∙ digits_mod h.number m in
      let three : first_word h / word32 ≡ h.number = ap (λ (w : ℕ). w / word32) halves ∙ digits_div h.number low in
      λ i. record { station = one i; mask = two i; number = three i; token = h.token }

  put_from : (n i k : ℕ) (ws : List ℕ) → k ≡ i * slot_words → i < n → n * slot_words ≤ length ws → records_from n (set (set ws k (first_word h)) (suc k) h.token) ≡ set (records_from n ws) i h
  unfolding records_from
  put_from zero i k ws e l f = absurd (omega arith)
  put_from (suc n) zero (suc k) ws e l f = absurd (omega arith)
  put_from (suc n) zero zero [] e l f = absurd (omega arith)
  put_from (suc n) zero zero (a ∷ []) e l f = absurd (omega arith)
  put_from (suc n) zero zero (a ∷ b ∷ ws) e l f = ap (λ x. x ∷ records_from n ws) back
  put_from (suc n) (suc i) zero ws e l f = absurd (omega arith)
  put_from (suc n) (suc i) (suc zero) ws e l f = absurd (omega arith)
  put_from (suc n) (suc i) (suc (suc k)) [] e l f = absurd (omega arith)
  put_from (suc n) (suc i) (suc (suc k)) (a ∷ []) e l f = absurd (omega arith)
  put_from (suc n) (suc i) (suc (suc k)) (a ∷ b ∷ ws) e l f = ap (λ (hs : List Handle). record_in (a ∷ b ∷ []) ∷ hs) (put_from n i k ws (omega arith) (omega arith) (omega arith))

  slot_put : (ws : List ℕ) (i : ℕ) → i < handle_slots → length ws ≡ handle_slots * slot_words → records_in (set (set ws (i * slot_words) (first_word h)) (i * slot_words + 1) h.token) ≡ set (records_in ws) i h
  slot_put ws i l f =
      let one : i * slot_words + 1 ≡ suc (i * slot_words) = omega arith in
      ap (λ (j : ℕ). records_in (set (set ws (i * slot_words) (first_word h)) j h.token)) one ∙ put_from handle_slots i (i * slot_words) ws refl l (omega arith)

pub freed_long : (ws : List ℕ) (i : ℕ) → length (set (records_in ws) i none) ≡ handle_slots
freed_long ws i = length-set (records_in ws) i none ∙ records_long handle_slots ws

-- words of zeros are free slots
pub zeros_free : (n k : ℕ) → records_from n (replicate k 0) ≡ replicate n none
unfolding records_from
zeros_free zero k = refl
zeros_free (suc n) zero = ap (λ (hs : List Handle). none ∷ hs) (zeros_free n zero)
zeros_free (suc n) (suc zero) = ap (λ (hs : List Handle). none ∷ hs) (zeros_free n zero)
zeros_free (suc n) (suc (suc k)) = ap (λ (hs : List Handle). none ∷ hs) (zeros_free n k)

-- the same as the code stores it
pub slot_stored : (ws : List ℕ) (i : ℕ) (h : Handle) {w : ℕ} → i < handle_slots → length ws ≡ handle_slots * slot_words → h.station < word16 → h.mask < word16 → w ≡ first_word h
    → records_in (set (set ws (i * slot_words) w) (i * slot_words + 1) h.token) ≡ set (records_in ws) i h
slot_stored ws i h l f s m e = ap (λ (v : ℕ). records_in (set (set ws (i * slot_words) v) (i * slot_words + 1) h.token)) e ∙ slot_put h s m ws i l f
