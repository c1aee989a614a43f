-- Loops that test or count elements of a list and are not left early: what is left to do gives what the whole gives. Assumes nothing.
use mathlib.Core.Path.{◌≡◌, refl, sym, ap, ◌∙◌}
use mathlib.Core.Bool.{Bool, true, false, ◌&&◌, and-true, and_assoc}
use mathlib.Core.List.{List, [], ◌∷◌}
use Prim.Native.Nat.{ℕ, zero, suc, ◌+◌, ◌≤◌, ◌<◌, ◌*◌, ◌/◌}
use native.Mathlib.Numerals.{add-one}
use native.Mathlib.Omega.{arith}
use borrow.Author.Tests.{eq-eqb, ne_eqb, eqb-true, eqb-false}
use lib.Bits.{bit_or, or_add_and, and_le_l, and_le_r}
use lib.Dec.{eqb, leb}
use lib.ListN.{length, drop, get_or, drop_of_length-le}
use lib.Seq.{drop-cons}
use Rattle.std.specs.Prelude.{if◌then◌else◌}
use Rattle.std.specs.List.{fold}
use Rattle.rules.specs.Basic.{all, is_zero, word32}
use Rattle.lists.specs.Numbers.{InTurn}
use Rattle.lists.specs.Tests.{one, count, tally, is_apart, is_referred, is_narrow, refs_test, reference_slots}
use Rattle.lists.proofs.Truth.{narrow_none}

-- ---- every element passes

module _ {A : Type 0} (f : A → Bool) (d : A) (s : List A) where
  -- after i elements: ok is what they gave
  pub record Tested (ok : Bool) (i : ℕ) : Type 0 where
    pub fits : i ≤ length s
    pub rest : (ok && all f (drop i s)) ≡ all f s

  pub tested_none : Tested true 0
  tested_none = record { fits = omega arith; rest = refl }

  pub tested_more : {ok r : Bool} {i : ℕ} → Tested ok i → i < length s → r ≡ f (get_or s i d) → Tested (ok && r) (i + 1)
  unfolding all
  tested_more {ok} {r} {i} t h e = record {
    fits = omega arith;
    rest =
        ap (λ b. ok && b && all f (drop (i + 1) s)) e
        ∙ and_assoc ok (f (get_or s i d)) (all f (drop (i + 1) s))
        ∙ ap (λ (k : ℕ). ok && (f (get_or s i d) && all f (drop k s))) (add-one i)
        ∙ ap (λ (l : List A). ok && all f l) (sym (drop-cons s i d h))
        ∙ t.rest;
  }

  pub tested_done : {ok : Bool} {i : ℕ} → Tested ok i → length s ≤ i → ok ≡ all f s
  unfolding all
  tested_done {ok} {i} t h = sym (and-true ok) ∙ ap (λ (l : List A). ok && all f l) (sym (drop_of_length-le s {i = i} h)) ∙ t.rest

  -- the same over an array of n elements
  pub record TestedArray (n : ℕ) (ok : Bool) (i : ℕ) : Type 0 where
    pub long : length s ≡ n
    pub tested : Tested ok i

  pub array_none : (n : ℕ) → length s ≡ n → TestedArray n true 0
  array_none n l = record { long = l; tested = tested_none }

  pub array_more : {n : ℕ} {ok r : Bool} {i : ℕ} → TestedArray n ok i → i < n → r ≡ f (get_or s i d) → TestedArray n (ok && r) (i + 1)
  array_more t h e = record { long = t.long; tested = tested_more t.tested (omega arith) e }

  pub array_done : {n : ℕ} {ok : Bool} {i : ℕ} → TestedArray n ok i → n ≤ i → ok ≡ all f s
  array_done t h = tested_done t.tested (omega arith)

pub apart_done : (from : List ℕ) {s : List ℕ} {ok : Bool} {i : ℕ} → Tested (is_apart from) 0 s ok i → length s ≤ i → ok ≡ all (is_apart from) s
apart_done from {s} t h = tested_done (is_apart from) 0 s t h

-- ---- a list as the numbers that its values stand for

module _ {X : Type 0} {number : X → ℕ} {numbers : List X → List ℕ} (turn : InTurn number numbers) where
  pub numbers_long : (s : List X) → length (numbers s) ≡ length s
  numbers_long [] = ap length turn.none
  numbers_long (x ∷ s) = ap length (turn.more x s) ∙ ap suc (numbers_long s)

  pub number_at : (s : List X) (i : ℕ) (y : X) → i < length s → y ≡ get_or s i y → number y ≡ get_or (numbers s) i 0
  number_at [] i y h e = absurd (omega arith)
  number_at (x ∷ s) zero y h e = ap number e ∙ sym (ap (λ l. get_or l 0 0) (turn.more x s))
  number_at (x ∷ s) (suc i) y h e = number_at s i y (omega arith) e ∙ sym (ap (λ l. get_or l (suc i) 0) (turn.more x s))

-- ---- what is bad is gathered by `|`: all is well where the test t of what was gathered passes

pub or_none : (a b : ℕ) → eqb (bit_or a b) 0 ≡ (eqb a 0 && eqb b 0)
or_none a b = by (eqb a 0) (eqb b 0) refl refl
  where
    by : (x y : Bool) → eqb a 0 ≡ x → eqb b 0 ≡ y → eqb (bit_or a b) 0 ≡ (x && y)
    by true true e f = eq-eqb (bit_or a b) 0 (omega (arith, or_add_and a b, eqb-true a 0 e, eqb-true b 0 f))
    by true false e f = ne_eqb (bit_or a b) 0 (λ h. omega (arith, or_add_and a b, and_le_l a b, eqb-false b 0 f))
    by false y e f = ne_eqb (bit_or a b) 0 (λ h. omega (arith, or_add_and a b, and_le_r a b, eqb-false a 0 e))

module _ (t : ℕ → Bool) (f : ℕ → Bool) where
  pub record Gathered (s : List ℕ) (acc i : ℕ) : Type 0 where
    pub tested : Tested f 0 s (t acc) i

  pub gathered_none : (s : List ℕ) → t 0 ≡ true → Gathered s 0 0
  gathered_none s e = record { tested = rw e (tested_none f 0 s) }

  -- g of the element is gathered
  pub gathered_more : ((a b : ℕ) → t (bit_or a b) ≡ (t a && t b)) → (g : ℕ → ℕ) → ((x : ℕ) → t (g x) ≡ f x)
      → {s : List ℕ} {acc i : ℕ} → Gathered s acc i → i < length s → Gathered s (bit_or acc (g (get_or s i 0))) (i + 1)
  gathered_more u g v {s} {acc} {i} h l = record { tested = rw (u acc (g (get_or s i 0))) (tested_more f 0 s h.tested l (v (get_or s i 0))) }

  -- the same where a call gave it
  pub gathered_given : ((a b : ℕ) → t (bit_or a b) ≡ (t a && t b)) → (g : ℕ → ℕ) → ((x : ℕ) → t (g x) ≡ f x)
      → {s : List ℕ} {acc i r : ℕ} → Gathered s acc i → i < length s → r ≡ g (get_or s i 0) → Gathered s (bit_or acc r) (i + 1)
  gathered_given u g v {s} {acc} {i} h l e = rw e (gathered_more u g v h l)

  pub gathered_done : {s : List ℕ} {acc i : ℕ} → Gathered s acc i → length s ≤ i → t acc ≡ all f s
  gathered_done {s} h l = tested_done f 0 s h.tested l

-- ---- the same by a fold

module _ (t f : ℕ → Bool) (u : (a b : ℕ) → t (bit_or a b) ≡ (t a && t b)) (g : ℕ → ℕ) (v : (x : ℕ) → t (g x) ≡ f x) where
  folded_from : (acc : ℕ) (s : List ℕ) → t (fold (λ bad x. bit_or bad (g x)) acc s) ≡ (t acc && all f s)
  unfolding all
  folded_from acc [] = sym (and-true (t acc))
  folded_from acc (x ∷ s) =
      folded_from (bit_or acc (g x)) s
      ∙ ap (λ b. b && all f s) (u acc (g x) ∙ ap (λ b. t acc && b) (v x))
      ∙ and_assoc (t acc) (f x) (all f s)

  -- g of every element was gathered
  pub folded : {r : ℕ} (s : List ℕ) → t 0 ≡ true → r ≡ fold (λ bad x. bit_or bad (g x)) 0 s → t r ≡ all f s
  folded s z e = ap t e ∙ folded_from 0 s ∙ ap (λ b. b && all f s) z

-- nothing but zeros was gathered
pub none_folded : (f : ℕ → Bool) (g : ℕ → ℕ) → ((x : ℕ) → eqb (g x) 0 ≡ f x) → {r : ℕ} (s : List ℕ) → r ≡ fold (λ bad x. bit_or bad (g x)) 0 s → eqb r 0 ≡ all f s
none_folded f g v s e = folded (λ n. eqb n 0) f or_none g v s refl e

pub zeros_folded : {r : ℕ} (s : List ℕ) → r ≡ fold (λ bad w. bit_or bad w) 0 s → eqb r 0 ≡ all is_zero s
zeros_folded s e = none_folded is_zero (λ w. w) (λ w. refl) s e

pub narrow_folded : {r : ℕ} (s : List ℕ) → r ≡ fold (λ bad w. bit_or bad (w / word32)) 0 s → eqb r 0 ≡ all is_narrow s
narrow_folded s e = none_folded is_narrow (λ w. w / word32) narrow_none s e

-- ---- a number is counted

one_few : (x y : ℕ) → one x y ≤ 1
one_few x y = by (eqb x y)
  where
    by : (b : Bool) → (if◌then◌else◌ b 1 0) ≤ 1
    by true = omega arith
    by false = omega arith

module _ {X : Type 0} {number : X → ℕ} {numbers : List X → List ℕ} (turn : InTurn number numbers) (x : ℕ) (s : List X) where
  -- after i elements
  pub record Counting (n i : ℕ) : Type 0 where
    pub fits : i ≤ length s
    pub few : n ≤ i
    pub rest : n + count x (numbers (drop i s)) ≡ count x (numbers s)

  pub counting_more : {n m i : ℕ} (y : X) → Counting n i → i < length s → y ≡ get_or s i y → m ≡ n + one x (number y) → Counting m (i + 1)
  unfolding count
  counting_more {n} {m} {i} y t h is e =
      let cut : count x (numbers (drop i s)) ≡ one x (number y) + count x (numbers (drop (i + 1) s)) =
      ap (λ l. count x (numbers l)) (drop-cons s i y h ∙ ap (λ z. z ∷ drop (suc i) s) (sym is))
      ∙ ap (count x) (turn.more y (drop (suc i) s))
      ∙ ap (λ (k : ℕ). one x (number y) + count x (numbers (drop k s))) (sym (add-one i)) in
      record { fits = omega arith; few = omega (arith, one_few x (number y), t.few); rest = omega (arith, e, cut, t.rest) }

  pub counting_done : {n i : ℕ} → Counting n i → length s ≤ i → (n ≡ count x (numbers s)) × (n ≤ length s)
  unfolding count
  counting_done {n} {i} t h =
      let none : count x (numbers (drop i s)) ≡ 0 = ap (λ l. count x (numbers l)) (drop_of_length-le s {i = i} h) ∙ ap (count x) turn.none in
      (omega (arith, none, t.rest), omega (arith, t.few, t.fits))

-- ---- the numbers of s are counted in a list

module _ (s rs : List ℕ) where
  -- after i elements
  pub record Tallying (ok : Bool) (n i : ℕ) : Type 0 where
    pub referred : Tested (is_referred rs) 0 s ok i
    pub few : n ≤ i * reference_slots
    pub rest : n + tally (drop i s) rs ≡ tally s rs

  pub tallying_more : {ok : Bool} {n i x : ℕ} → Tallying ok n i → i < length s → length rs ≤ reference_slots → x ≤ length rs → x ≡ count (get_or s i 0) rs
      → Tallying (ok && leb 1 x) (n + x) (i + 1)
  unfolding tally
  tallying_more {ok} {n} {i} {x} t l lr f e =
      let cut : tally (drop i s) rs ≡ count (get_or s i 0) rs + tally (drop (i + 1) s) rs =
      ap (λ l. tally l rs) (drop-cons s i 0 l) ∙ ap (λ (k : ℕ). count (get_or s i 0) rs + tally (drop k s) rs) (sym (add-one i)) in
      record {
        referred = tested_more _ _ _ t.referred l (ap (λ (k : ℕ). leb 1 k) e);
        few = omega (arith, t.few);
        rest = omega (arith, t.rest, cut);
      }

  pub tallying_done : {ok : Bool} {n i : ℕ} → Tallying ok n i → length s ≤ i → (ok && eqb n (length rs)) ≡ refs_test s rs
  unfolding tally refs_test
  tallying_done {ok} {n} {i} t l =
      let none : tally (drop i s) rs ≡ 0 = ap (λ l. tally l rs) (drop_of_length-le s {i = i} l) in
      let r : ok ≡ all (is_referred rs) s = tested_done _ _ _ t.referred l in
      let e : n ≡ tally s rs = omega (arith, t.rest, none) in
      cc
