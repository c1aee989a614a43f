-- `write` meets its contract. Assumes nothing.
use Prim.Native.Nat.{ℕ, ◌<◌, ◌≤◌, ◌+◌, ◌-◌, ◌%◌, ◌/◌, min}
use native.Mathlib.Omega.{arith}
use mathlib.Core.Path.{◌≡◌, ap, sym, ◌∙◌}
use mathlib.Core.List.{List, ◌∷◌}
use lib.ListN.{length, take, drop, set, length-set}
use borrow.Author.Rules.{rules}
use borrow.Rule.Slice.PartMut.{put_mid}
use Rattle.rules.specs.Number.{encode}
use Rattle.rules.proofs.Numbers.{encode_one, encode_more, length_one, length_more}
use Rattle.number.specs.Over.{over}
use Rattle.number.proofs.Over.{over_none, over_one, over_first, lent, lent_length}
use Rattle.number.proofs.+write.Goals as goal

none_count : (n : ℕ) (o : List ℕ) → length o ≡ 0 → 0 ≡ min (length (encode n)) (length o)
none_count n o h = omega arith

one_count : (n : ℕ) (o : List ℕ) → n < 128 → (length o ≡ 0 → ⊥) → 1 ≡ min (length (encode n)) (length o)
one_count n o l h = omega (arith, length_one n l)

one_byte : (n : ℕ) (o : List ℕ) → n < 128 → (length o ≡ 0 → ⊥) → set o 0 n ≡ over (encode n) o
one_byte n o l h = rw (encode_one n l) (over_one n o h)

-- a first byte x is stored, and a call wrote the rest into the part after it, r bytes, so that the part is ys
abbrev part : ℕ → List ℕ → List ℕ
part x o = take (length (set o 0 x) - 1) (drop 1 (set o 0 x))

counted : (n x r : ℕ) (o : List ℕ) → 128 ≤ n → (length o ≡ 0 → ⊥) → r ≡ min (length (encode (n / 128))) (length (part x o)) → r + 1 ≡ min (length (encode n)) (length o)
counted n x r o h l e = omega (arith, length_more n h, lent_length (set o 0 x) 1, length-set o 0 x)

stored : (x : ℕ) (zs o ys : List ℕ) → (length o ≡ 0 → ⊥) → ys ≡ over zs (part x o) → put_mid 1 (length (set o 0 x) - 1) (set o 0 x) ys ≡ over (x ∷ zs) o
stored x zs o ys l e = lent (set o 0 x) zs ys 1 e ∙ over_first x zs o l

-- where the first byte is the number's low seven bits with the top bit set
written : (n x : ℕ) (o ys : List ℕ) → 128 ≤ n → (length o ≡ 0 → ⊥) → x ≡ n % 128 + 128 → ys ≡ over (encode (n / 128)) (part x o)
    → put_mid 1 (length (set o 0 x) - 1) (set o 0 x) ys ≡ over (encode n) o
written n x o ys h l b e = stored x (encode (n / 128)) o ys l e ∙ ap (λ (xs : List ℕ). over xs o) (ap (λ (y : ℕ). y ∷ encode (n / 128)) b ∙ sym (encode_more n h))

pub returns-then-out-eq0 : goal.returns-then-out-eq0
returns-then-out-eq0 t c = search (rules, none_count, over_none)

pub returns-then-n-lt128 : goal.returns-then-n-lt128
returns-then-n-lt128 t c = search (rules, one_count, one_byte)

pub returns-else-n-lt128 : goal.returns-else-n-lt128
returns-else-n-lt128 t c = (search (rules, counted), search (rules, written))
