-- What the first count bytes of a row come to, by its first two bytes and the count. Assumes nothing.
use Prim.Native.Nat.{ℕ, zero, suc, ◌+◌, ◌*◌, ◌-◌, ◌≤◌, ◌<◌}
use native.Mathlib.Omega.{arith}
use mathlib.Core.Path.{◌≡◌, refl, sym, ap, subst, ◌∙◌}
use mathlib.Core.Bool.{Bool, true, false, ◌||◌}
use mathlib.Core.List.{List, [], ◌∷◌, ◌++◌}
use lib.Dec.{eqb, leb, ltb}
use lib.ListN.{length, take, drop, get_or, length-append, length-take, length-drop, drop_of_length-le}
use lib.Seq.{take_all}
use borrow.Author.Tests.{lt-ltb, le-ltb, eq-eqb, ne_eqb}
use Rattle.std.specs.Prelude.{if◌then◌else◌}
use Rattle.rules.specs.Frame.{max_body, Length, unread, invalid, size, second_of, length_of, framed_by, framed}
use Rattle.stream.specs.declared.Framed.TheVariants as code
use Rattle.stream.specs.declared.frame.Length as declared
use Rattle.stream.specs.declared.frame.Length.TheVariants as len
use Rattle.stream.specs.Join.{Sure}
use Rattle.stream.specs.Meaning.{length_from, Begins, Announced, FramedAs}

-- the bytes, the first and the second one by name
first : (count : ℕ) (row : List ℕ) → 1 ≤ count → count ≤ length row → take count row ≡ get_or row 0 0 ∷ drop 1 (take count row)
first zero row l h = absurd (omega arith)
first (suc k) [] l h = absurd (omega arith)
first (suc k) (a ∷ row) l h = refl

both : (count : ℕ) (row : List ℕ) → 2 ≤ count → count ≤ length row → take count row ≡ get_or row 0 0 ∷ get_or row 1 0 ∷ drop 2 (take count row)
both zero row l h = absurd (omega arith)
both (suc k) [] l h = absurd (omega arith)
both (suc k) (a ∷ row) l h = ap (λ (s : List ℕ). a ∷ s) (first k row (omega arith) (omega arith))

-- ---- what they say of the body's length

module _ (row : List ℕ) (count : ℕ) (h : count ≤ length row) where
  pub none : count ≡ 0 → Announced row count len.Unread
  unfolding length_of
  none e = record { means = rw e; bounds = tt }

  module _ (a : ℕ) (e : a ≡ get_or row 0 0) (some : count ≡ 0 → ⊥) where
    starts : take count row ≡ a ∷ drop 1 (take count row)
    starts = first count row (omega arith) h ∙ ap (λ (x : ℕ). x ∷ drop 1 (take count row)) (sym e)

    pub no_length : a ≡ 0 → Announced row count len.Invalid
    unfolding length_of
    no_length z = record { means = rw starts (simp (eq-eqb a 0 z)); bounds = tt }

    module _ (z : a ≡ 0 → ⊥) where
      pub one_byte : a < 128 → Announced row count (len.Known 1 a)
      unfolding length_of
      one_byte l = record { means = sym (ap length_of starts ∙ simp (ne_eqb a 0 z, lt-ltb a 128 l)); bounds = (omega arith, omega arith) }

      -- a first byte that announces a second one
      module _ (l : 128 ≤ a) where
        pub one_only : count ≡ 1 → Announced row count len.Unread
        unfolding length_of second_of
        one_only k =
            let alone : take count row ≡ a ∷ [] = starts ∙ ap (λ (s : List ℕ). a ∷ s) (drop_of_length-le (take count row) {i = 1} (simp length-take (omega arith))) in
            record { means = rw alone (simp (ne_eqb a 0 z, le-ltb a 128 l)); bounds = tt }

        module _ (b : ℕ) (f : b ≡ get_or row 1 0) (more : count ≡ 1 → ⊥) where
          second : length_of (take count row) ≡ second_of a (b ∷ drop 2 (take count row))
          unfolding length_of
          second = ap length_of (both count row (omega arith) h) ∙ rw (← e, ← f) (simp (ne_eqb a 0 z, le-ltb a 128 l))

          -- t: whether the two bytes are no length
          module _ (t : Bool) (v : t ≡ (eqb b 0 || leb 128 b || ltb max_body (a - 128 + 128 * b))) where
            pub bad_length : t ≡ true → Announced row count len.Invalid
            unfolding second_of
            bad_length y = record { means = rw (second, ← v, y); bounds = tt }

            pub two_bytes : t ≡ false → Announced row count (len.Known 2 (a - 128 + 128 * b))
            unfolding second_of
            two_bytes y = record { means = sym (second ∙ rw (← v, y)); bounds = (omega arith, omega arith) }

pub ruleset lengths = (none, no_length, one_byte, one_only, bad_length, two_bytes)

-- ---- bytes that follow change nothing of a length that is known

Stays : List ℕ → Length → Length → Type 0
Stays bytes unread m = Unit {0}
Stays bytes invalid m = Unit {0}
Stays bytes (size n body) m = m ≡ size n (body ++ bytes)

on_both : (P : Length → Length → Type 0) (b : Bool) (x y u v : Length) → P x u → P y v → P (if b then x else y) (if b then u else v)
on_both P true x y u v p q = p
on_both P false x y u v p q = q

second_stays : (a : ℕ) (s bytes : List ℕ) → Stays bytes (second_of a s) (second_of a (s ++ bytes))
unfolding Stays second_of
second_stays a [] bytes = tt
second_stays a (b ∷ s) bytes = on_both (Stays bytes) (eqb b 0 || leb 128 b || ltb max_body (a - 128 + 128 * b)) invalid _ invalid _ tt refl

length_stays : (s bytes : List ℕ) → Stays bytes (length_of s) (length_of (s ++ bytes))
unfolding Stays length_of
length_stays [] bytes = tt
length_stays (a ∷ s) bytes =
    on_both (Stays bytes) (eqb a 0) invalid _ invalid _ tt
    (on_both (Stays bytes) (ltb a 128) (size a s) (second_of a s) (size a (s ++ bytes)) (second_of a (s ++ bytes)) refl (second_stays a s bytes))

-- ---- what they come to, by the length, and how many bytes more leave a part

module _ (row : List ℕ) (count : ℕ) (h : count ≤ length row) (r : declared.Length) (f : Announced row count r) where
  is : (l : declared.Length) → r ≡ l → length_of (take count row) ≡ length_from row count l
  is l e = sym f.means ∙ ap (length_from row count) e

  pub length_unread : r ≡ len.Unread → FramedAs row count code.Part
  unfolding framed framed_by
  length_unread e = record { means = rw (is len.Unread e); bounds = tt }

  pub length_invalid : r ≡ len.Invalid → FramedAs row count code.Broken
  unfolding framed framed_by
  length_invalid e = record { means = rw (is len.Invalid e); bounds = tt }

  -- a body of n bytes from start on
  module _ (start n : ℕ) (e : r ≡ len.Known start n) where
    there : length (drop start (take count row)) ≡ count - start
    there = simp (length-drop, length-take) (omega arith)

    within : (1 ≤ start) × (start ≤ count)
    within = subst (Begins count) e f.bounds

    pub body_short : count - start < n → FramedAs row count code.Part
    unfolding framed framed_by
    body_short l = record { means = rw (is (len.Known start n) e, lt-ltb (length (drop start (take count row))) n (omega (arith, there))); bounds = tt }

    pub body_full : n ≤ count - start → FramedAs row count (code.Whole start)
    unfolding framed framed_by
    body_full l = record { means = rw (is (len.Known start n) e, le-ltb (length (drop start (take count row))) n (omega (arith, there))); bounds = within }

    sure_first : (k : ℕ) → count - start < n → k ≡ n - (count - start) - 1 → Sure (take count row) k
    unfolding framed framed_by Stays
    sure_first k l g = record {
      stays = λ bytes lo hi.
          let body = drop start (take count row) in
          let known : length_of (take count row ++ bytes) ≡ size n (body ++ bytes) =
          subst (λ (m : Length). Stays bytes m (length_of (take count row ++ bytes))) (is (len.Known start n) e) (length_stays (take count row) bytes) in
          rw (known, lt-ltb (length (body ++ bytes)) n (simp length-append (omega (arith, there))));
    }

-- of all the bytes
pub sure_some : (s : List ℕ) (r : declared.Length) → Announced s (length s) r → (start n : ℕ) → r ≡ len.Known start n → (k : ℕ) → length s - start < n → k ≡ n - (length s - start) - 1
    → Sure s k
sure_some s r f start n e k l g = subst (λ bytes. Sure bytes k) (take_all (length s) s (omega arith)) (sure_first s (length s) (omega arith) r f start n e k l g)

pub ruleset framings = (length_unread, length_invalid, body_short)
