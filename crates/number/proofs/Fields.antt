-- Numbers one after the other, as a loop passes over them. Assumes nothing.
use Prim.Native.Nat.{ℕ, zero, suc, ◌+◌, ◌*◌, ◌-◌, ◌^◌, ◌≤◌, ◌<◌, min}
use native.Mathlib.Nat.{le_of_suc-le-suc, not-suc-le-zero}
use native.Mathlib.Numerals.{add-one}
use native.Mathlib.Omega.{arith}
use mathlib.Core.Path.{◌≡◌, refl, sym, ap, ◌∙◌}
use mathlib.Core.List.{List, [], ◌∷◌, ◌++◌, append-nil, append_assoc}
use lib.ListN.{length, take, drop, get_or, length-append}
use borrow.Rule.Slice.PartMut.{put_mid}
use Rattle.std.specs.List.{sum_by}
use Rattle.std.proofs.lemmas.List.Sums.{sum_by-cons}
use Rattle.rules.specs.Number.{encode, encode_all}
use Rattle.rules.proofs.Answers.{word}
use Rattle.number.specs.Answer.{max_fields}
use Rattle.number.specs.Over.{over}
use Rattle.number.proofs.Over.{over_same, lent_length, onto}

encoded : (fs : List ℕ) (i : ℕ) → i < length fs → encode_all (take (suc i) fs) ≡ encode_all (take i fs) ++ encode (get_or fs i 0)
unfolding encode_all
encoded [] i h = absurd (not-suc-le-zero h)
encoded (f ∷ fs) zero h = append-nil (encode f)
encoded (f ∷ fs) (suc i) h = ap (λ (l : List ℕ). encode f ++ l) (encoded fs i (le_of_suc-le-suc h)) ∙ sym (append_assoc (encode f) (encode_all (take i fs)) (encode (get_or fs i 0)))

-- one field more
encoded_next : (fs : List ℕ) (i : ℕ) → i < length fs → encode_all (take (i + 1) fs) ≡ encode_all (take i fs) ++ encode (get_or fs i 0)
encoded_next fs i h = ap (λ (n : ℕ). encode_all (take n fs)) (add-one i) ∙ encoded fs i h

pub length_next : (fs : List ℕ) (i : ℕ) → i < length fs → length (encode_all (take (i + 1) fs)) ≡ length (encode_all (take i fs)) + length (encode (get_or fs i 0))
length_next fs i h = ap length (encoded_next fs i h) ∙ length-append (encode_all (take i fs)) (encode (get_or fs i 0))

-- the fields passed take no more than all
length_part : (fs : List ℕ) (i : ℕ) → length (encode_all (take i fs)) ≤ length (encode_all fs)
unfolding encode_all
length_part [] zero = omega arith
length_part [] (suc i) = omega arith
length_part (f ∷ fs) zero = omega arith
length_part (f ∷ fs) (suc i) = omega (arith, length-append (encode f) (encode_all (take i fs)), length-append (encode f) (encode_all fs), length_part fs i)

-- a loop that writes field after field: o holds the first i fields over o₀, up to a, and all have room
module _ (fs o₀ o : List ℕ) (a i : ℕ) (more : i < length fs) (e : a ≡ length (encode_all (take i fs))) (f : o ≡ over (encode_all (take i fs)) o₀) (fit : length (encode_all fs) ≤ length o₀) where
  room : a + length (encode (get_or fs i 0)) ≤ length o
  room = omega (arith, over_same (encode_all (take i fs)) o o₀ f, length_next fs i more, length_part fs (i + 1))

  pub room_start : a ≤ length o
  room_start = omega (arith, room)

  -- the next one is written whole, r bytes
  pub next_place : (r : ℕ) → r ≡ min (length (encode (get_or fs i 0))) (length (take (length o - a) (drop a o))) → a + r ≡ length (encode_all (take (i + 1) fs))
  next_place r w = omega (arith, room, lent_length o a, length_next fs i more)

  pub filled : (ys : List ℕ) → ys ≡ over (encode (get_or fs i 0)) (take (length o - a) (drop a o)) → put_mid a (length o - a) o ys ≡ over (encode_all (take (i + 1) fs)) o₀
  filled ys w = onto (encode_all (take i fs)) (encode (get_or fs i 0)) o₀ o ys a e f w ∙ ap (λ (l : List ℕ). over l o₀) (sym (encoded_next fs i more))

-- ---- how many bytes the fields take

abbrev field_size : ℕ → ℕ
field_size n = length (encode n)

all_sum : (fs : List ℕ) → sum_by field_size fs ≡ length (encode_all fs)
unfolding encode_all
all_sum [] = refl
all_sum (f ∷ fs) = simp length-append (omega (arith, sum_by-cons field_size f fs, all_sum fs))

pub fields_sum : (fs : List ℕ) {r : ℕ} → r ≡ sum_by field_size fs → r ≡ length (encode_all fs)
fields_sum fs e = e ∙ all_sum fs

pub fields_few : (fs : List ℕ) {r : ℕ} → ((i : ℕ) → get_or fs i 0 < 2 ^ 64) → length fs ≤ max_fields → r ≡ sum_by field_size fs → r ≤ 10 * max_fields
fields_few fs below h e = omega (arith, all fs below)
  where
    all : (gs : List ℕ) → ((i : ℕ) → get_or gs i 0 < 2 ^ 64) → sum_by field_size gs ≤ length gs * 10
    all [] b = omega arith
    all (g ∷ gs) b = omega (arith, sum_by-cons field_size g gs, all gs (λ i. b (suc i)), word g (b 0))
